use Rattle.asg_app.proofs.Common.{[], ◌++◌, map, string_bytes, sym, ap, ◌∙◌, subst, IsAnswer, AreGiven, AsksOf, Given, Stopped, status_of, Due, DueForAsked, DueForPart, files_of, asked_of, MayHoldAll}
use Rattle.asg_io.specs.Laws.{Puts-nil}
use Rattle.asg_app.proofs.Fetching.{all_asked, given_asked, given_held, given_short, stopped_asked}
use Rattle.asg_app.proofs.RunLemmas.{answer_without_fault, status_of_no_write, stopped_answer, stopped_fault, written_in_part}
use Rattle.asg_app.proofs.program.run.Goals as goal

pub returns-in-Ok-clause-in_turn : goal.returns-in-Ok-clause-in_turn
returns-in-Ok-clause-in_turn g c =
    let told = g.F.Shelf.told in
    let asked = g.F.Shelf.asked in
    let faults = g.F.Shelf.faults in
    let sources = c.in-Ok.asked.sources in
    let short = given_short told asked faults (files_of c.in-Ok.asked.request) sources _ _ c.in-Ok.ensures.given in
    Given sources
    (subst (λ job. AreGiven told asked faults (files_of job) sources c.args.shelf.now c.fetch_asked.new.shelf) c.in-Ok.ensures.request c.in-Ok.ensures.given)
    c.answer.ensures.no_read_fault
    (λ e.
    let answered = c.answer.ensures.answered (rw e tt) in
    c.answer_law.ensures.short c.in-Ok.asked.request sources answered.0 short (subst (λ status. DueForAsked c.in-Ok.asked.request sources status answered.0) e answered.1))

pub returns-in-Ok-clause-complete : goal.returns-in-Ok-clause-complete
returns-in-Ok-clause-complete g c = λ tells status text due no_read no_write.
    let words = map string_bytes c.args.words.now in
    let told = g.F.Shelf.told c.args.shelf.now in
    let sources = c.in-Ok.asked.sources in
    answer_without_fault c.answer.result status
    (λ a.
    let answered = c.answer.ensures.answered a in
    let may = given_held g.F.Shelf.told g.F.Shelf.asked g.F.Shelf.faults (files_of c.in-Ok.asked.request) sources _ _ c.in-Ok.ensures.given in
    let owed : Due words told c.answer.result answered.0 = (
      sources,
      subst (λ job. MayHoldAll told (files_of job) sources) c.in-Ok.ensures.request may,
      subst (λ job. DueForAsked job sources c.answer.result answered.0) c.in-Ok.ensures.request answered.1,
    ) in
    c.due_law.ensures.status words told c.answer.result status answered.0 text tells owed due)
    (λ e. no_write (c.answer.ensures.write_fault_cause e))
    (λ e. absurd (c.answer.ensures.no_read_fault e))

pub returns-in-Err-clause-answered : goal.returns-in-Err-clause-answered
returns-in-Err-clause-answered g c = λ a.
    let answer = subst IsAnswer c.unread_status.ensures a in
    let due = stopped_answer g.F.Shelf.told g.F.Shelf.asked g.F.Shelf.faults (asked_of (map string_bytes c.args.words.now)) _ _ c.in-Err.fault c.in-Err.ensures.stopped answer in
    ([], rw c.unread_status.ensures due, Puts-nil (g.K.Sink.written c.args.out.now))

pub returns-in-Err-clause-asked : goal.returns-in-Err-clause-asked
returns-in-Err-clause-asked g c = stopped_asked g.F.Shelf.told g.F.Shelf.asked g.F.Shelf.faults (files_of (asked_of (map string_bytes c.args.words.now))) c.in-Err.fault _ _ c.in-Err.ensures.stopped

pub returns-in-Err-clause-in_turn : goal.returns-in-Err-clause-in_turn
returns-in-Err-clause-in_turn g c = Stopped c.in-Err.fault c.in-Err.ensures.stopped c.unread_status.ensures

pub returns-in-Err-clause-complete : goal.returns-in-Err-clause-complete
returns-in-Err-clause-complete g c = λ tells status text due no_read no_write.
    let words = map string_bytes c.args.words.now in
    let told = g.F.Shelf.told c.args.shelf.now in
    rw c.unread_status.ensures
    (answer_without_fault (status_of c.in-Err.fault) status
    (λ a.
    let owed : Due words told (status_of c.in-Err.fault) [] =
    stopped_answer g.F.Shelf.told g.F.Shelf.asked g.F.Shelf.faults (asked_of words) c.args.shelf.now c.fetch_asked.new.shelf c.in-Err.fault c.in-Err.ensures.stopped a in
    c.due_law.ensures.status words told (status_of c.in-Err.fault) status [] text tells owed due)
    (status_of_no_write c.in-Err.fault)
    (λ e. no_read (stopped_fault g.F.Shelf.told g.F.Shelf.asked g.F.Shelf.faults (files_of (asked_of words)) _ _ c.in-Err.fault c.in-Err.ensures.stopped e)))

pub returns-in-Ok-clause-answered : goal.returns-in-Ok-clause-answered
returns-in-Ok-clause-answered g c = λ a.
    let told = g.F.Shelf.told c.args.shelf.now in
    let sources = c.in-Ok.asked.sources in
    let found = c.answer.ensures.answered a in
    let may = given_held g.F.Shelf.told g.F.Shelf.asked g.F.Shelf.faults (files_of c.in-Ok.asked.request) sources _ _ c.in-Ok.ensures.given in (
      found.0,
      (
        sources,
        subst (λ job. MayHoldAll told (files_of job) sources) c.in-Ok.ensures.request may,
        subst (λ job. DueForAsked job sources c.answer.result found.0) c.in-Ok.ensures.request found.1,
      ),
      found.2,
    )

pub returns-in-Ok-clause-write_fault : goal.returns-in-Ok-clause-write_fault
returns-in-Ok-clause-write_fault g c = λ e.
    let told = g.F.Shelf.told c.args.shelf.now in
    let sources = c.in-Ok.asked.sources in
    let found = c.answer.ensures.write_fault e in
    let may = given_held g.F.Shelf.told g.F.Shelf.asked g.F.Shelf.faults (files_of c.in-Ok.asked.request) sources _ _ c.in-Ok.ensures.given in (
      found.0,
      found.1,
      (
        sources,
        subst (λ job. MayHoldAll told (files_of job) sources) c.in-Ok.ensures.request may,
        subst (λ job. DueForPart job sources found.0 found.1) c.in-Ok.ensures.request found.2,
      ),
      found.3,
    )

pub returns-in-Ok-clause-no_memory : goal.returns-in-Ok-clause-no_memory
returns-in-Ok-clause-no_memory g c = λ e.
    let told = g.F.Shelf.told c.args.shelf.now in
    let sources = c.in-Ok.asked.sources in
    let may = given_held g.F.Shelf.told g.F.Shelf.asked g.F.Shelf.faults (files_of c.in-Ok.asked.request) sources _ _ c.in-Ok.ensures.given in
    written_in_part told c.in-Ok.asked.request (asked_of (map string_bytes c.args.words.now)) sources _ _ c.in-Ok.ensures.request may (c.answer.ensures.no_memory e)

pub returns-in-Ok-clause-asked_all : goal.returns-in-Ok-clause-asked_all
returns-in-Ok-clause-asked_all g c = λ _.
    let asked = given_asked g.F.Shelf.told g.F.Shelf.asked g.F.Shelf.faults (files_of c.in-Ok.asked.request) c.in-Ok.asked.sources _ _ c.in-Ok.ensures.given in
    asked ∙ ap (λ job. g.F.Shelf.asked c.args.shelf.now ++ files_of job) c.in-Ok.ensures.request

pub returns-in-Ok-clause-asked : goal.returns-in-Ok-clause-asked
returns-in-Ok-clause-asked g c =
    let names = files_of c.in-Ok.asked.request in
    let asked = given_asked g.F.Shelf.told g.F.Shelf.asked g.F.Shelf.faults names c.in-Ok.asked.sources _ _ c.in-Ok.ensures.given in
    subst (λ job. AsksOf (g.F.Shelf.asked c.args.shelf.now) (g.F.Shelf.asked c.fetch_asked.new.shelf) (files_of job)) c.in-Ok.ensures.request (all_asked _ _ names asked)

pub returns-in-Err-clause-read_fault_cause : goal.returns-in-Err-clause-read_fault_cause
returns-in-Err-clause-read_fault_cause g c = λ e.
    stopped_fault g.F.Shelf.told g.F.Shelf.asked g.F.Shelf.faults (files_of (asked_of (map string_bytes c.args.words.now))) _ _ c.in-Err.fault c.in-Err.ensures.stopped (sym c.unread_status.ensures ∙ e)

use Rattle.asg_answers.proofs.Common.{◌≡◌, ℕ, List, sym, ◌∙◌, IfErr-weaker, on_ok_weaker, bytes_of, IsTold, WriteFault, NoMemory, Puts, PutsPrefix}
use Rattle.asg_answers.proofs.edited.put_answer.Goals as goal

pub returns-in-Ok-clause-written : goal.returns-in-Ok-clause-written
returns-in-Ok-clause-written g c = λ standing stands.
    let new = c.next_text.new.editor in
    let before = g.K.Sink.written c.args.out.now in
    let now = g.K.Sink.written c.put_told.new.out in
    let bytes = bytes_of c.in-Ok.text in
    on_ok_weaker {Q = (text : List ℕ) × IsTold c.args.brief c.args.objective standing new text × Puts before now text} c.put_told.result
    (λ (puts : Puts before now bytes). (bytes, c.in-Ok.ensures.told standing stands, puts))
    c.put_told.ensures.whole

pub returns-in-Ok-clause-halted : goal.returns-in-Ok-clause-halted
returns-in-Ok-clause-halted g c = λ standing stands.
    let new = c.next_text.new.editor in
    let before = g.K.Sink.written c.args.out.now in
    let now = g.K.Sink.written c.put_told.new.out in
    let bytes = bytes_of c.in-Ok.text in
    IfErr-weaker c.put_told.result (λ _. PutsPrefix before now bytes) (λ halt. halt ≡ WriteFault → (text : List ℕ) × IsTold c.args.brief c.args.objective standing new text × PutsPrefix before now text)
    (λ halt puts e. (bytes, c.in-Ok.ensures.told standing stands, puts))
    c.put_told.ensures.prefix

pub returns-in-Ok-clause-unwritten : goal.returns-in-Ok-clause-unwritten
returns-in-Ok-clause-unwritten g c =
    IfErr-weaker c.put_told.result (λ halt. halt ≡ WriteFault) (λ halt. halt ≡ NoMemory → g.K.Sink.written c.put_told.new.out ≡ g.K.Sink.written c.args.out.now)
    (λ halt is e. let both = sym is ∙ e in cc)
    c.put_told.ensures.fault

use Rattle.asg_answers.proofs.Common.{◌≡◌, ◌≤◌, None, sym, refl, ap, ◌∙◌, subst, IfErr-weaker, on_ok_weaker, HaltsIn, WritesLine, WriteFault, NoMemory, Edits, Puts-nil, Rose, refusal_of, most_side, PassesNegative, square_side, after_line, line_refusal}
use Rattle.asg_answers.proofs.EditLines.{HaltsIn-solve, WritesLine-edit, WritesLine-solve}
use Rattle.asg_answers.proofs.Outcomes.{if_err_both, on_ok_always}
use Rattle.asg_answers.proofs.edited.put_line.Goals as goal

-- ---- an answer is asked for

pub returns-in-Solve-clause-instance : goal.returns-in-Solve-clause-instance
returns-in-Solve-clause-instance g c =
    let X = c.args.editor.now.instance in
    on_ok_always c.put_answer.result (c.put_answer.new.editor.instance ≡ after_line X c.args.line) (c.put_answer.ensures.instance ∙ ap (after_line X) (sym c.in-Solve.is))

pub returns-in-Solve-clause-side : goal.returns-in-Solve-clause-side
returns-in-Solve-clause-side g c =
    on_ok_always c.put_answer.result (square_side c.put_answer.new.editor.instance ≤ most_side) (subst (λ Z. square_side Z ≤ most_side) (sym c.put_answer.ensures.instance) c.requires.side)

pub returns-in-Solve-clause-passes : goal.returns-in-Solve-clause-passes
returns-in-Solve-clause-passes g c =
    on_ok_always c.put_answer.result (PassesNegative c.args.objective c.put_answer.new.editor.instance) (subst (PassesNegative c.args.objective) (sym c.put_answer.ensures.instance) c.requires.passes)

pub returns-in-Solve-clause-written : goal.returns-in-Solve-clause-written
returns-in-Solve-clause-written g c = λ standing stands.
    let X = c.args.editor.now.instance in
    let new = c.put_answer.new.editor in
    let before = g.K.Sink.written c.args.out.now in
    let now = g.K.Sink.written c.put_answer.new.out in
    on_ok_weaker {Q = WritesLine c.args.brief c.args.objective X standing c.args.line new before now} c.put_answer.result
    (λ did. subst (λ line. WritesLine c.args.brief c.args.objective X standing line new before now) (sym c.in-Solve.is) (WritesLine-solve c.args.brief c.args.objective standing X new before now did))
    (c.put_answer.ensures.written standing stands)

pub returns-in-Solve-clause-halted : goal.returns-in-Solve-clause-halted
returns-in-Solve-clause-halted g c = λ standing stands.
    let X = c.args.editor.now.instance in
    let new = c.put_answer.new.editor in
    let before = g.K.Sink.written c.args.out.now in
    let now = g.K.Sink.written c.put_answer.new.out in
    if_err_both c.put_answer.result _ _ (HaltsIn c.args.brief c.args.objective X standing c.args.line before now)
    (λ halt put unwritten. subst (λ line. HaltsIn c.args.brief c.args.objective X standing line before now halt) (sym c.in-Solve.is) (HaltsIn-solve c.args.brief c.args.objective standing X new before now halt c.put_answer.ensures.instance put unwritten))
    (c.put_answer.ensures.halted standing stands) c.put_answer.ensures.unwritten

-- ---- the instance is edited

pub edit_line-requires : goal.edit_line-requires
edit_line-requires g c =
    let X = c.args.editor.now.instance in
    subst (λ o. refusal_of o X c.in-Edit.edit ≡ None) (sym c.requires.objective) (subst (λ line. line_refusal c.args.objective X line ≡ None) c.in-Edit.is c.requires.tried)

pub returns-in-Edit-clause-instance : goal.returns-in-Edit-clause-instance
returns-in-Edit-clause-instance g c =
    let X = c.args.editor.now.instance in
    let new = c.edit_line.new.editor in
    on_ok_weaker {P = Edits c.args.editor.now c.in-Edit.edit new} {Q = new.instance ≡ after_line X c.args.line} c.edit_line.result (λ did. did.instance ∙ ap (after_line X) (sym c.in-Edit.is)) c.edit_line.ensures.edits

pub returns-in-Edit-clause-side : goal.returns-in-Edit-clause-side
returns-in-Edit-clause-side g c =
    let X = c.args.editor.now.instance in
    let new = c.edit_line.new.editor in
    on_ok_weaker {P = Edits c.args.editor.now c.in-Edit.edit new} {Q = square_side new.instance ≤ most_side} c.edit_line.result
    (λ did. subst (λ Z. square_side Z ≤ most_side) (sym did.instance) (subst (λ n. n ≤ most_side) (sym (c.edited_law.ensures.side X c.in-Edit.edit)) c.requires.side))
    c.edit_line.ensures.edits

pub returns-in-Edit-clause-passes : goal.returns-in-Edit-clause-passes
returns-in-Edit-clause-passes g c =
    let X = c.args.editor.now.instance in
    let new = c.edit_line.new.editor in
    on_ok_weaker {P = Edits c.args.editor.now c.in-Edit.edit new} {Q = PassesNegative c.args.objective new.instance} c.edit_line.result
    (λ did.
    subst (PassesNegative c.args.objective) (sym did.instance)
    (c.edited_law.ensures.passes c.args.objective X c.in-Edit.edit c.instance-inst.ensures.instance c.requires.passes (subst (λ line. line_refusal c.args.objective X line ≡ None) c.in-Edit.is c.requires.tried)))
    c.edit_line.ensures.edits

pub returns-in-Edit-clause-written : goal.returns-in-Edit-clause-written
returns-in-Edit-clause-written g c = λ standing stands.
    let X = c.args.editor.now.instance in
    let new = c.edit_line.new.editor in
    let before = g.K.Sink.written c.args.out.now in
    on_ok_weaker {P = Edits c.args.editor.now c.in-Edit.edit new} {Q = WritesLine c.args.brief c.args.objective X standing c.args.line new before before} c.edit_line.result
    (λ did.
    subst (λ line. WritesLine c.args.brief c.args.objective X standing line new before before) (sym c.in-Edit.is)
    (WritesLine-edit c.args.brief c.args.objective standing c.args.editor.now new c.in-Edit.edit before c.requires.objective did stands (Puts-nil before)))
    c.edit_line.ensures.edits

pub returns-in-Edit-clause-halted : goal.returns-in-Edit-clause-halted
returns-in-Edit-clause-halted g c = λ standing stands.
    let X = c.args.editor.now.instance in
    let before = g.K.Sink.written c.args.out.now in
    IfErr-weaker c.edit_line.result (λ halt. halt ≡ NoMemory) (HaltsIn c.args.brief c.args.objective X standing c.args.line before before)
    (λ halt is. subst (HaltsIn c.args.brief c.args.objective X standing c.args.line before before) (sym is) refl)
    c.edit_line.ensures.fault

pub returns-in-Edit-clause-cause : goal.returns-in-Edit-clause-cause
returns-in-Edit-clause-cause g c =
    IfErr-weaker c.edit_line.result (λ halt. halt ≡ NoMemory) (λ halt. halt ≡ WriteFault → Rose (g.K.Sink.faults c.args.out.now) (g.K.Sink.faults c.args.out.now))
    (λ halt is e. let both = sym is ∙ e in cc)
    c.edit_line.ensures.fault

use Rattle.asg_commands.proofs.Common.{◌≡◌, ◌+◌, ◌≤◌, ◌∷◌, length, None, sym, ap, ◌∙◌, subst, arith, IfOk-weaker, JudgesOn, most_side, PassesNegative, square_side, after_line, line_refusal, solved_instances, solves}
use Rattle.asg_commands.proofs.JudgeLemmas.{judges_edit}
use Rattle.asg_commands.proofs.judge.judge_line.Goals as goal

pub judge_document-requires-clause-within : goal.judge_document-requires-clause-within
judge_document-requires-clause-within c =
    let within = subst (λ line. c.args.count + solves line ≤ length c.args.documents.now) c.in-Solve.is c.requires.within in
    omega (arith, within)

pub returns-in-Solve-clause-judged : goal.returns-in-Solve-clause-judged
returns-in-Solve-clause-judged c =
    let objective = c.args.job.now.objective in
    let X = c.args.inst.now in
    IfOk-weaker c.judge_document.result _ _
    (λ judged one number lines.
    subst (λ line. JudgesOn objective c.args.form c.args.count (solved_instances X ((number, line) ∷ lines)) c.args.documents.now (c.args.count + solves line) (solved_instances X lines) judged.0) (sym c.in-Solve.is) (one (solved_instances X lines)))
    c.judge_document.ensures.judged

pub edit_instance-requires : goal.edit_instance-requires
edit_instance-requires c = subst (λ line. line_refusal c.args.job.now.objective c.args.inst.now line ≡ None) c.in-Edit.is c.requires.tried

pub returns-in_ok-left-in-Edit-clause-after : goal.returns-in_ok-left-in-Edit-clause-after
returns-in_ok-left-in-Edit-clause-after c = c.in_ok-edit_instance-in-Edit.ensures ∙ ap (after_line c.args.inst.now) (sym c.in-Edit.is)

pub returns-in_ok-left-in-Edit-clause-side : goal.returns-in_ok-left-in-Edit-clause-side
returns-in_ok-left-in-Edit-clause-side c =
    subst (λ Z. square_side Z ≤ most_side) (sym c.in_ok-edit_instance-in-Edit.ensures) (subst (λ n. n ≤ most_side) (sym (c.edited_law.ensures.side c.args.inst.now c.in-Edit.edit)) c.requires.side)

pub returns-in_ok-left-in-Edit-clause-passes : goal.returns-in_ok-left-in-Edit-clause-passes
returns-in_ok-left-in-Edit-clause-passes c =
    let objective = c.args.job.now.objective in
    let X = c.args.inst.now in
    subst (PassesNegative objective) (sym c.in_ok-edit_instance-in-Edit.ensures)
    (c.edited_law.ensures.passes objective X c.in-Edit.edit c.rows-rows.ensures.instance c.requires.passes (subst (λ line. line_refusal objective X line ≡ None) c.in-Edit.is c.requires.tried))

pub returns-in_ok-left-in-Edit-clause-judged : goal.returns-in_ok-left-in-Edit-clause-judged
returns-in_ok-left-in-Edit-clause-judged c = λ number lines.
    let objective = c.args.job.now.objective in
    let X = c.args.inst.now in
    subst (λ line. JudgesOn objective c.args.form c.args.count (solved_instances X ((number, line) ∷ lines)) c.args.documents.now (c.args.count + solves line) (solved_instances c.edit_instance.new.inst lines) None) (sym c.in-Edit.is)
    (judges_edit objective c.args.form c.args.count X c.edit_instance.new.inst c.in-Edit.edit c.args.documents.now c.in_ok-edit_instance-in-Edit.ensures number lines)

pub returns-in_ok-left-in-Edit-clause-known : goal.returns-in_ok-left-in-Edit-clause-known
returns-in_ok-left-in-Edit-clause-known c = λ _.
    let objective = c.args.job.now.objective in
    let X = c.args.inst.now in
    c.in_ok-left-in-Edit.ensures X c.in_ok-edit_instance-in-Edit.ensures c.requires.known

pub known_after-requires : goal.known_after-requires
known_after-requires c =
    let objective = c.args.job.now.objective in
    let X = c.args.inst.now in
    subst (PassesNegative objective) (sym c.in_ok-edit_instance-in-Edit.ensures)
    (c.edited_law.ensures.passes objective X c.in-Edit.edit c.rows-rows.ensures.instance c.requires.passes (subst (λ line. line_refusal objective X line ≡ None) c.in-Edit.is c.requires.tried))

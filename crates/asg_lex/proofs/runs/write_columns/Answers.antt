use Rattle.asg_lex.proofs.Common.{◌<◌, false, sym, ◌∙◌, subst, IsMarked, IsPerfect, square_side}
use Rattle.asg_lex.proofs.RunLemmas.{left_assignment}
use Rattle.asg_lex.proofs.runs.write_columns.Goals as goal

pub returns-clause-left : goal.returns-clause-left
returns-clause-left c =
    let X = c.args.inst.now in
    let bound = c.requires.done.0 in
    let run = c.requires.done.1 in
    let r = c.args.run.now in
    left_assignment X c.rows-rows.ensures.instance (λ enter r k. c.square_law.ensures.presence X false enter r k)
    c.args.cells.now.square.now c.requires.square c.args.cells.now.limit c.args.cells.now.entries.now c.requires.entries bound run.reach run.upper r.levels.items r.work.marks.bits run.marks
    r.matching _
    (subst (λ n. IsPerfect (IsMarked r.work.marks.bits n) (square_side X) r.matching) run.sized.marks_side run.perfect)
    (c.copy_columns.auto.columns ∙ c.requires.count)
    (λ k h. c.copy_columns.ensures k (subst (λ n. k < n) (sym run.matching_side) h))

use Rattle.asg_window.proofs.Common.{sym, subst, AreEntries, all_under, no_bound}
use Rattle.asg_window.proofs.SquareCells.{grade_below}
use Rattle.asg_window.proofs.outcomes.balanced.Goals as goal

pub graded_outcome-requires-clause-entries : goal.graded_outcome-requires-clause-entries
graded_outcome-requires-clause-entries c =
    let X = c.args.inst.now in
    let Q = c.in_ok-square.square in
    subst (AreEntries Q) (sym c.as_slice.ensures.value)
    (all_under Q no_bound c.in_ok-entries.entries.items (grade_below X Q c.rows-rows.ensures.instance c.in_ok-square.ensures) c.in_ok-entries.ensures)

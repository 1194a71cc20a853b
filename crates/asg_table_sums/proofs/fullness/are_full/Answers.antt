use Rattle.asg_table_sums.proofs.Common.{◌≡◌, ◌<◌, ◌≤◌, sym, subst, ⊎_elim, arith, cases_lt, IsFull}
use Rattle.asg_table_sums.proofs.fullness.are_full.Goals as goal

pub columns-preserved : goal.columns-preserved
columns-preserved c = λ k within.
    ⊎_elim
    (λ (before : k < c.columns.column). c.columns.invariant k before)
    (λ (from : c.columns.column ≤ k).
    let here : k ≡ c.columns.column = omega (arith, from, within) in
    subst (IsFull c.args.inst.now c.args.choice.now c.args.rises.now) (sym here) (c.is_full.ensures c.if-not-is_full.false))
    (cases_lt k c.columns.column)

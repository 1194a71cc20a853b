use Rattle.asg_table_sums.proofs.Common.{◌≡◌, ◌<◌, ◌≤◌, sym, subst, ⊎_elim, arith, to_z-of_z, to_z, of_z, cases_lt, shifted, IsRowLevel, w64}
use Rattle.asg_table_sums.proofs.level_choices.are_rows_level.Goals as goal

pub rows-preserved : goal.rows-preserved
rows-preserved c = λ r within.
    ⊎_elim
    (λ (before : r < c.rows.row). c.rows.invariant r before)
    (λ (from : c.rows.row ≤ r).
    let here : r ≡ c.rows.row = omega (arith, from, within) in
    subst (IsRowLevel c.args.objective c.args.inst.now c.args.choice.now c.args.rises.now (shifted (to_z w64 (of_z w64 c.args.top)))) (sym here) (c.is_row_level.ensures c.if-not-is_row_level.false))
    (cases_lt r c.rows.row)

pub returns : goal.returns
returns c = λ _ r within.
    subst (λ z. IsRowLevel c.args.objective c.args.inst.now c.args.choice.now c.args.rises.now (shifted z) r) (to_z-of_z w64 c.args.top c.ranges.top)
    (c.rows.invariant r (omega (arith, within, c.rows-test.false, c.len-row-end.ensures)))

use Rattle.asg_table_sums.proofs.Common.{◌+◌, ◌≤◌, pos, ◌+ℤ◌, ◌-ℤ◌, ◌≤ℤ◌, slice_index_or, sym, subst, arith, to_z-of_z, absent, shifted, sum_entered, rise_at, w64}
use Rattle.asg_table_sums.proofs.RowCosts.{shifted_over, turned_over}
use Rattle.asg_values.specs.laws.LiveCells.{column_of_live}
use Rattle.asg_table_sums.proofs.level_rows.is_row_over.Goals as goal

pub returns-in-Sum : goal.returns-in-Sum
returns-in-Sum c = λ yes k y live.
    let X = c.args.inst.now in
    let r = c.args.row in
    let rises = c.args.rises.now in
    let parts = c.in-Some.ensures.parts in
    subst (λ o. shifted c.args.top ≤ sum_entered o y + rise_at rises k) (sym c.in-Sum.is)
    (shifted_over X c.rows-rows.ensures.instance r c.in-Some.parts.firsts.now c.in-Some.parts.seconds.now parts k y live (rise_at rises k) c.args.top c.requires.low
    (subst (λ z. z ≤ℤ (slice_index_or c.in-Some.parts.firsts.now k absent +ℤ pos (rise_at rises k))) (to_z-of_z w64 c.args.top c.ranges.top)
    (c.are_above.ensures yes k (omega (arith, column_of_live X r k y live, parts.whole)))))

pub returns-in-SumMax : goal.returns-in-SumMax
returns-in-SumMax c = λ yes k y live.
    let X = c.args.inst.now in
    let r = c.args.row in
    let rises = c.args.rises.now in
    let parts = c.in-Some.ensures.parts in
    subst (λ o. shifted c.args.top ≤ sum_entered o y + rise_at rises k) (sym c.in-SumMax.is)
    (turned_over X c.rows-rows.ensures.instance r c.in-Some.parts.firsts.now c.in-Some.parts.seconds.now parts k y live (rise_at rises k) c.args.top c.requires.low
    (subst (λ z. z ≤ℤ (pos (rise_at rises k) -ℤ slice_index_or c.in-Some.parts.firsts.now k absent)) (to_z-of_z w64 c.args.top c.ranges.top)
    (c.are_below.ensures yes k (omega (arith, column_of_live X r k y live, parts.whole)))))

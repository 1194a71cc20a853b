use Rattle.asg_table_sums.proofs.Common.{◌+◌, ◌≤◌, pos, ◌+ℤ◌, ◌-ℤ◌, ◌≤ℤ◌, slice_index_or, sym, subst, arith, to_z-of_z, absent, shifted, sum_entered, rise_at, w64}
use Rattle.asg_table_sums.proofs.RowCosts.{shifted_le, turned_le, shifted_under, turned_under}
use Rattle.asg_values.specs.laws.LiveCells.{column_of_live}
use Rattle.asg_table_sums.proofs.level_rows.is_least_cell.Goals as goal

pub returns-in-Sum-clause-least : goal.returns-in-Sum-clause-least
returns-in-Sum-clause-least c = λ yes k x y own other.
    let X = c.args.inst.now in
    let r = c.args.row in
    let d = c.args.column in
    let rises = c.args.rises.now in
    let parts = c.in-Some.ensures.parts in
    subst (λ o. sum_entered o x + rise_at rises d ≤ sum_entered o y + rise_at rises k) (sym c.in-Sum.is)
    (shifted_le X c.rows-rows.ensures.instance r c.in-Some.parts.firsts.now c.in-Some.parts.seconds.now parts d k x y own other (rise_at rises d) (rise_at rises k)
    (c.is_least_and_under.ensures.least yes k (omega (arith, column_of_live X r k y other, parts.whole))))

pub returns-in-SumMax-clause-least : goal.returns-in-SumMax-clause-least
returns-in-SumMax-clause-least c = λ yes k x y own other.
    let X = c.args.inst.now in
    let r = c.args.row in
    let d = c.args.column in
    let rises = c.args.rises.now in
    let parts = c.in-Some.ensures.parts in
    subst (λ o. sum_entered o x + rise_at rises d ≤ sum_entered o y + rise_at rises k) (sym c.in-SumMax.is)
    (turned_le X c.rows-rows.ensures.instance r c.in-Some.parts.firsts.now c.in-Some.parts.seconds.now parts d k x y own other (rise_at rises d) (rise_at rises k)
    (c.is_greatest_and_under.ensures.least yes k (omega (arith, column_of_live X r k y other, parts.whole))))

pub returns-in-Sum-clause-under : goal.returns-in-Sum-clause-under
returns-in-Sum-clause-under c = λ yes x live.
    let X = c.args.inst.now in
    let d = c.args.column in
    let rises = c.args.rises.now in
    subst (λ o. sum_entered o x + rise_at rises d ≤ shifted c.args.top) (sym c.in-Sum.is)
    (shifted_under X c.rows-rows.ensures.instance c.args.row c.in-Some.parts.firsts.now c.in-Some.parts.seconds.now c.in-Some.ensures.parts d x live (rise_at rises d) c.args.top c.requires
    (subst (λ z. (slice_index_or c.in-Some.parts.firsts.now d absent +ℤ pos (rise_at rises d)) ≤ℤ z) (to_z-of_z w64 c.args.top c.ranges.top) (c.is_least_and_under.ensures.under yes)))

pub returns-in-SumMax-clause-under : goal.returns-in-SumMax-clause-under
returns-in-SumMax-clause-under c = λ yes x live.
    let X = c.args.inst.now in
    let d = c.args.column in
    let rises = c.args.rises.now in
    subst (λ o. sum_entered o x + rise_at rises d ≤ shifted c.args.top) (sym c.in-SumMax.is)
    (turned_under X c.rows-rows.ensures.instance c.args.row c.in-Some.parts.firsts.now c.in-Some.parts.seconds.now c.in-Some.ensures.parts d x live (rise_at rises d) c.args.top c.requires
    (subst (λ z. (pos (rise_at rises d) -ℤ slice_index_or c.in-Some.parts.firsts.now d absent) ≤ℤ z) (to_z-of_z w64 c.args.top c.ranges.top) (c.is_greatest_and_under.ensures.under yes)))

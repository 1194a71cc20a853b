use Rattle.asg_dual_bounds.proofs.Common.{ℕ, ◌+◌, ◌≤◌, ◌≢◌, slice_index, Contains, arith, absent}
use Rattle.asg_model.proofs.Kit.{below_more}
use Rattle.asg_dual_bounds.proofs.TableLemmas.{stands_in_row}
use Rattle.asg_dual_bounds.proofs.own_rows.is_row_above_but.Goals as goal

pub returns : goal.returns
returns c = λ _ k other free x is.
    let slots = c.row-slots.result.now in
    let row = c.row-slots.ensures.row in
    let at = stands_in_row c.args.table.now c.args.row k x slots row is in
    let above = c.columns.invariant k (omega (arith, at.0, row.whole, c.columns-test.false)) other free at.1 in
    omega (arith, above, at.2)

pub columns-preserved : goal.columns-preserved
columns-preserved c =
    let slots = c.row-slots.result.now in
    below_more (λ (k : ℕ). k ≢ c.args.own → ¬ Contains c.args.banned.now k → slice_index slots k ≢ absent → c.args.fall ≤ slice_index slots k + slice_index c.args.rises.now k) _
    c.columns.invariant (c.is_above_or_banned.ensures c.if-not-is_above_or_banned.false)

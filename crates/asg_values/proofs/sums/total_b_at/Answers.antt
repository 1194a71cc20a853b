-- One more cost.
use Rattle.asg_values.proofs.Common.{◌+◌, ◌*◌, ◌≤◌, take, pos, ◌+ℤ◌, unsigned_abs, sym, ap, ◌∙◌, arith, to_z-of_z, w64, to_z, of_z, fits_signed_from_abs, w128, most_cost, second_parts, costs_at, total, Cost}
use Rattle.asg_values.proofs.Steps.{total-at_more, unsigned_abs-add}
use Rattle.asg_values.proofs.sums.total_b_at.Goals as goal

pub loop-cost-preserved : goal.loop-cost-preserved
loop-cost-preserved c =
    let none : Cost = record { a = pos 0; b = pos 0 } in
    let i = c.loop-cost.cost-index in
    let at = to_z w64 (of_z w64 c.args.a) in
    let so_far = to_z w128 c.loop-cost.sum-bits in
    let part = c.b_at-sum.result in
    let step = total-at_more at c.args.costs.now i none c.loop-cost-test.true in
    let small = c.b_at-sum.ensures.in_range in
    let bound : unsigned_abs (so_far +ℤ part) ≤ most_cost * (i + 1) =
    omega (arith, unsigned_abs-add so_far part, small, c.loop-cost.invariant.1) in
    let same_part = to_z-of_z w128 part (fits_signed_from_abs w128 part (omega (arith, small))) in
    let same_sum = to_z-of_z w128 (so_far +ℤ part) (fits_signed_from_abs w128 (so_far +ℤ part) (omega (arith, bound, c.requires.few, c.loop-cost-test.true))) in
    let same = ap (λ p. to_z w128 (of_z w128 (so_far +ℤ p))) same_part ∙ same_sum in
    let before = total (second_parts (costs_at at (take i c.args.costs.now))) in
    (same ∙ ap (λ s. s +ℤ part) c.loop-cost.invariant.0 ∙ ap (λ p. before +ℤ p) c.b_at-sum.ensures.exact ∙ sym step, rw same bound)

-- One more cost.
use Rattle.asg_values.proofs.Common.{◌≤◌, get_or, pos, unsigned_abs, sym, ap, ◌∙◌, arith, to_z-of_z, w64, to_z, of_z, fits_signed_from_abs, int_max, most_cost, Cost}
use Rattle.asg_values.proofs.Steps.{fold-first_more, int_max-in_range}
use Rattle.asg_values.proofs.extremes.greatest.Goals as goal

pub loop-cost-preserved : goal.loop-cost-preserved
loop-cost-preserved c =
    let none : Cost = record { a = pos 0; b = pos 0 } in
    let i = c.loop-cost.cost-index in
    let start = to_z w64 (of_z w64 c.in-Some.first.now.a) in
    let so_far = to_z w64 c.loop-cost.top-bits in
    let here = get_or c.args.costs.now i none in
    let in_range = c.requires i none c.loop-cost-test.true in
    let step = fold-first_more int_max start c.args.costs.now i none c.loop-cost-test.true in
    let same_here = to_z-of_z w64 here.a (fits_signed_from_abs w64 here.a (omega (arith, in_range.a_in_range))) in
    let is = c.max-top.ensures.value ∙ ap (int_max so_far) same_here in
    let small : unsigned_abs c.max-top.result ≤ most_cost =
    rw is (int_max-in_range so_far here.a most_cost c.loop-cost.invariant.1 in_range.a_in_range) in
    let same = to_z-of_z w64 c.max-top.result (fits_signed_from_abs w64 c.max-top.result (omega (arith, small))) in
    (same ∙ is ∙ ap (λ t. int_max t here.a) c.loop-cost.invariant.0 ∙ sym step, rw same small)

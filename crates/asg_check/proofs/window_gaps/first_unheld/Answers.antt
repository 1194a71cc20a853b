use Rattle.asg_check.proofs.Common.{map, IsPermutation, sym, subst, to_z-of_z, rules, w128, AreSpansUp, IsFirstOutside, span_of}
use Rattle.asg_check.proofs.WindowGaps.{spans_up_by_key}
use Rattle.asg_check.proofs.WindowOrder.{IsFirstOutside-permuted}
use Rattle.asg_check.proofs.window_gaps.first_unheld.Goals as goal

pub first_outside-requires-clause-spans : goal.first_outside-requires-clause-spans
first_outside-requires-clause-spans c = subst AreSpansUp (sym c.as_slice.ensures.value) (spans_up_by_key c.sort_unstable_by_key.new.self.items c.sort_unstable_by_key.ensures.sorted (λ a r q k. search rules))

pub returns-then-are_up : goal.returns-then-are_up
returns-then-are_up c =
    subst (λ d. IsFirstOutside c.args.costs.now (map (span_of d) c.args.windows.now) c.first_in_order.result) (to_z-of_z w128 c.args.spread c.ranges.spread) c.first_in_order.ensures

pub returns : goal.returns
returns c =
    IsFirstOutside-permuted c.args.costs.now (map (span_of c.args.spread) c.args.windows.now) c.sort_unstable_by_key.new.self.items c.first_outside.result
    (subst (λ d. IsPermutation (map (span_of d) c.args.windows.now) c.sort_unstable_by_key.new.self.items) (to_z-of_z w128 c.args.spread c.ranges.spread) (rw c.in_ok-spans.ensures at c.sort_unstable_by_key.ensures.permutation))
    (rw c.as_slice.ensures.value at c.first_outside.ensures)

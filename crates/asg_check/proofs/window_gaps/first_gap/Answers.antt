use Rattle.asg_check.proofs.Common.{map, sym, subst, to_z-of_z, w128, AreCostsUp, IsFirstOutside, span_of}
use Rattle.asg_check.proofs.WindowGaps.{IsLeastGap-from_outside, costs_up}
use Rattle.asg_check.proofs.window_gaps.first_gap.Goals as goal

pub first_unheld-requires-clause-costs : goal.first_unheld-requires-clause-costs
first_unheld-requires-clause-costs c = subst AreCostsUp (sym c.as_slice.ensures.value) (costs_up c.sort_unstable.new.self.items c.sort_unstable.ensures.sorted)

pub returns : goal.returns
returns c =
    IsLeastGap-from_outside c.args.inst.now c.args.spread c.args.windows.now c.sort_unstable.new.self.items c.in_ok-found.found
    (rw c.in_ok-costs.ensures at c.sort_unstable.ensures.permutation)
    (subst (λ d. IsFirstOutside c.sort_unstable.new.self.items (map (span_of d) c.args.windows.now) c.in_ok-found.found) (to_z-of_z w128 c.args.spread c.ranges.spread)
    (rw c.as_slice.ensures.value at c.in_ok-found.ensures))

use Rattle.asg_dual_bounds.proofs.Common.{ℕ, ◌<◌, ◌≤◌, IsTrue, slice_index}
use Rattle.asg_dual_bounds.proofs.lanes.are_raised.Given as goal

-- the columns so far rise by no less, where it is so
abbrev pub invariant-columns : goal.invariant-columns
invariant-columns l =
    IsTrue l.raised → (c : ℕ) → c < l.column → (slice_index l.before c ≤ slice_index l.after c) × (l.floor ≤ slice_index l.after c)

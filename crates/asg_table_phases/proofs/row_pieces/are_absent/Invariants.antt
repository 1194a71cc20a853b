use Rattle.asg_table_phases.proofs.Common.{◌≡◌, ℕ, ◌+◌, ◌<◌, ◌≤◌, IsTrue, slice_index_or, absent}
use Rattle.asg_table_phases.proofs.row_pieces.are_absent.Given as goal

-- the cells so far are absent
abbrev pub invariant-cells : goal.invariant-cells
invariant-cells l =
    IsTrue l.are_absent → (k : ℕ) → l.fn.from ≤ k → k < l.fn.from + l.place → slice_index_or l.costs k absent ≡ absent

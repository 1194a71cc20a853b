use Rattle.asg_admit.proofs.Common.{◌≡◌, length, MergesRows, held_at, place_of}
use Rattle.asg_admit.proofs.blocks.merge_entering.Given as goal

-- the rows so far that enter at the step were merged
abbrev pub invariant-loop-row : goal.invariant-loop-row
invariant-loop-row g l =
    let M = g.M.Ordered.monoid_of l.m in
    record {
      room : length l.room ≡ length l.fn.room;
      held : length l.held ≡ length l.fn.held;
      merged : MergesRows M l.square l.enters l.from (place_of l.end l.leaves) l.row (held_at M l.fn.room l.fn.held) (held_at M l.room l.held);
    }

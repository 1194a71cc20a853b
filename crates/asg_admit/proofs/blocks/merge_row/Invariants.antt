use Rattle.asg_admit.proofs.Common.{◌≡◌, length, MergesRow, held_at, place_of, cell_at}
use Rattle.asg_admit.proofs.blocks.merge_row.Given as goal

-- the cells so far were merged
abbrev pub invariant-loop-column : goal.invariant-loop-column
invariant-loop-column g l =
    let M = g.M.Ordered.monoid_of l.m in
    record {
      room : length l.room ≡ length l.fn.room;
      held : length l.held ≡ length l.fn.held;
      merged : MergesRow M (cell_at l.square l.row) (place_of l.end l.leaves) l.column (held_at M l.fn.room l.fn.held) (held_at M l.room l.held);
    }

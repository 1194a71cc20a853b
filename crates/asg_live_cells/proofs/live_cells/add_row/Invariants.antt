use Rattle.asg_live_cells.proofs.Common.{◌≡◌, ◌*◌, word_count, AreEntriesBefore}
use Rattle.asg_live_cells.proofs.live_cells.add_row.Given as goal

-- the live cells so far
abbrev pub invariant-loop-number : goal.invariant-loop-number
invariant-loop-number l =
    record {
      end : l.number-end ≡ word_count l.square.side;
      before : AreEntriesBefore l.square l.limit l.row (64 * l.number) l.entries.items;
    }

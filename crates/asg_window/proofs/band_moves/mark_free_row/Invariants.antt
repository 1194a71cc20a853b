use Rattle.asg_window.proofs.Common.{◌≡◌, MarksFreeBefore}
use Rattle.asg_window.proofs.band_moves.mark_free_row.Given as goal

-- the free cells so far
abbrev pub invariant-loop-column : goal.invariant-loop-column
invariant-loop-column l =
    record {
      end : l.column-end ≡ l.square.side;
      rows : l.bits.rows ≡ l.square.side;
      columns : l.bits.columns ≡ l.square.side;
      marks : MarksFreeBefore l.square l.row l.column l.bits;
    }

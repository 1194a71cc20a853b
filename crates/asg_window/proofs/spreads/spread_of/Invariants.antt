use Rattle.asg_window.proofs.Common.{◌≡◌, AreExtremes}
use Rattle.asg_window.proofs.spreads.spread_of.Given as goal

-- the extremes of the rows so far
abbrev pub invariant-loop-row : goal.invariant-loop-row
invariant-loop-row l =
    record {
      end : l.row-end ≡ l.square.side;
      extremes : AreExtremes l.square l.perm l.row l.extremes;
    }

use Rattle.asg_match.proofs.Common.{◌≡◌, ℕ, ◌<◌, length, IsMatched, AllAllowed}
use Rattle.asg_match.proofs.perfect.complete.Given as goal

-- the rows so far have columns
abbrev pub invariant-loop-row : goal.invariant-loop-row
invariant-loop-row g l =
    record {
      side : length l.matching ≡ length l.fn.matching;
      tree_side : l.tree.side ≡ length l.fn.matching;
      end : l.side ≡ length l.fn.matching;
      cells : AllAllowed (g.A.Allowed.allows l.allowed) l.matching;
      kept : (r : ℕ) → IsMatched l.fn.matching r → IsMatched l.matching r;
      done : (r : ℕ) → r < l.row → IsMatched l.matching r;
    }

use Rattle.asg_lex.proofs.Common.{◌≡◌, ℕ, ◌<◌, ◌⊎◌, length, IsUnderway, IsNamedRow, GoesOn, IsMarked, AllAllowed, IsMatched}
use Rattle.asg_lex.proofs.level_work.serve_named.Given as goal

-- only rows of the entries from the place on may be without a column
abbrev pub invariant-loop-place : goal.invariant-loop-place
invariant-loop-place l =
    record {
      side : length l.matching ≡ length l.fn.matching;
      tree_side : l.tree.side ≡ l.fn.tree.side;
      underway : IsUnderway (length l.fn.matching) l.work;
      on : GoesOn l.fn.work l.work;
      cells : AllAllowed (IsMarked l.work.marks.bits l.work.marks.side) l.matching;
      named : (r : ℕ) → r < length l.fn.matching → IsMatched l.matching r ⊎ IsNamedRow l.entries l.place l.to r;
    }

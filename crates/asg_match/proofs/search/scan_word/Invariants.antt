use Rattle.asg_match.proofs.Common.{◌-◌, length, IsSearch, Extends}
use Rattle.asg_match.proofs.search.scan_word.Given as goal

-- the tree so far
abbrev pub invariant-columns : goal.invariant-columns
invariant-columns g l =
    record {
      search : IsSearch (g.A.Allowed.allows l.allowed) l.matching l.tree;
      extends : Extends l.fn.tree l.tree;
    }

-- each turn but the last adds a row
abbrev pub decreases-columns : goal.decreases-columns
decreases-columns g l = length l.matching - length l.tree.rows.items

use Rattle.asg_match.proofs.Common.{◌≡◌, ℕ, ◌/◌, ◌<◌, length, get_or, IsReached, parents_in, IsSearch, Extends}
use Rattle.asg_match.proofs.search.scan.Given as goal

-- the columns of the words so far that are allowed to the row are reached
abbrev pub invariant-loop-number : goal.invariant-loop-number
invariant-loop-number g l =
    record {
      search : IsSearch (g.A.Allowed.allows l.allowed) l.matching l.tree;
      extends : Extends l.fn.tree l.tree;
      end : l.number-end ≡ length l.fn.tree.unseen.items;
      closed : (c : ℕ) → c / 64 < l.number → g.A.Allowed.allows l.allowed (get_or l.fn.tree.rows.items l.place 0) c → IsReached (parents_in l.tree) c;
    }

use Rattle.asg_match.proofs.Common.{ℕ, ◌<◌, get_or, IsClosed, parents_in, IsSearch, Extends}
use Rattle.asg_match.proofs.search.grow_on.Given as goal

-- the rows at the places so far are closed
abbrev pub invariant-loop-place : goal.invariant-loop-place
invariant-loop-place g l =
    record {
      search : IsSearch (g.A.Allowed.allows l.allowed) l.matching l.tree;
      extends : Extends l.fn.tree l.tree;
      closed : (k : ℕ) → k < l.place → IsClosed (g.A.Allowed.allows l.allowed) (parents_in l.tree) (get_or l.tree.rows.items k 0);
    }

use Rattle.asg_algebra.proofs.Common.{◌≡◌, ◌+◌, slice_index, vec_len, Searches}
use Rattle.asg_algebra.proofs.branching.grow_within.Given as goal

-- one row entered in each round
abbrev pub invariant-loop-place : goal.invariant-loop-place
invariant-loop-place g l =
    record {
      search : Searches (g.M.Ordered.monoid_of l.m) (g.M.DMonoid.difference l.m) (g.S.RowSquare.as_reduced l.reduced) l.matching l.growth l.sum l.place;
      rows : vec_len l.growth.tree.rows ≡ l.place + 1;
      first : slice_index l.growth.tree.rows.items 0 ≡ slice_index l.fn.growth.tree.rows.items 0;
    }

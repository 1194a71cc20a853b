use Rattle.asg_algebra.proofs.Common.{◌≡◌, length, take, LeadTo}
use Rattle.asg_algebra.proofs.taken.take_phases.Given as goal

-- the phases so far were taken
abbrev pub invariant-phases : goal.invariant-phases
invariant-phases g l =
    record {
      lead : LeadTo (g.M.Ordered.monoid_of l.m) (g.M.DMonoid.difference l.m) (take l.k l.given) (g.S.RowSquare.as_reduced l.fn.square) (g.S.RowSquare.as_reduced l.square) l.fn.region l.region l.fn.last l.last;
      room : length l.room ≡ length l.fn.room;
    }

use Rattle.asg_algebra.proofs.Common.{IsBench}
use Rattle.asg_algebra.proofs.SolvingLaws.{IsSolving}
use Rattle.asg_algebra.proofs.solving.serve_all.Given as goal

-- the rows so far were served
abbrev pub invariant-loop-root : goal.invariant-loop-root
invariant-loop-root g l =
    record {
      solving : IsSolving (g.M.Ordered.monoid_of l.m) (g.M.DMonoid.difference l.m) (g.S.RowSquare.as_reduced l.fn.reduced) (g.S.RowSquare.as_reduced l.reduced) l.fn.matching l.matching l.fn.region l.region l.fn.trail l.last l.root;
      bench : IsBench (g.S.RowSquare.as_reduced l.fn.reduced).now.side l.growth;
    }

use Rattle.asg_replays.proofs.Common.{take, AreReplayed}
use Rattle.asg_replays.proofs.replays.first_bad.Given as goal

-- the phases so far lead to the square as it is
abbrev pub invariant-loop-place : goal.invariant-loop-place
invariant-loop-place g l =
    AreReplayed (g.M.Ordered.monoid_of l.m) (g.M.DMonoid.difference l.m) (g.M.Written.word_of l.m) (take l.place l.phases) (g.S.RowSquare.as_reduced l.fn.square) (g.S.RowSquare.as_reduced l.square)

use Rattle.asg_settling.proofs.Common.{◌≡◌, length, phase_of}
use Rattle.asg_settling.proofs.SettledRows.{SettlesEnteredTo}
use Rattle.asg_settling.proofs.settling.settle_entered.Given as goal

-- the rows so far that enter are settled, and the others stand
abbrev pub invariant-loop-row : goal.invariant-loop-row
invariant-loop-row g l =
    let phase = phase_of l.steps l.enters l.leaves in
    record {
      room : length l.room ≡ length l.fn.room;
      settled : SettlesEnteredTo (g.M.Ordered.monoid_of l.m) (g.M.DMonoid.difference l.m) phase l.fn.square l.square l.row;
    }

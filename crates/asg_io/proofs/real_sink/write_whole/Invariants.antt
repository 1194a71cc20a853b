-- The bytes sent so far are the first of the piece, and each turn leaves less of it.
use Rattle.std.proofs.Common.{◌≤◌, ◌-◌, length, take}
use Rattle.std.specs.Io.KnownBytes.{Appends}
use Rattle.asg_io.proofs.real_sink.write_whole.Given as goal

abbrev pub invariant-turns : goal.invariant-turns
invariant-turns g l = record {
  within : l.sent ≤ length l.piece;
  put : Appends (g.W.Write.contents l.initial.out) (g.W.Write.contents l.out) (take l.sent l.piece);
}

abbrev pub decreases-turns : goal.decreases-turns
decreases-turns g l = length l.piece - l.sent

-- What was read came first and is within the limit, and each turn leaves less that may come.
use Rattle.std.proofs.Common.{◌≤◌, ◌-◌, vec_len}
use Rattle.std.specs.Io.KnownBytes.{Consumes}
use Rattle.asg_io.proofs.real_shelf.read_within.Given as goal

abbrev pub invariant-turns : goal.invariant-turns
invariant-turns g l = record {
  read : Consumes (g.F.Read.remaining l.initial.file) (g.F.Read.remaining l.file) l.bytes.items;
  within : vec_len l.bytes ≤ l.limit;
}

abbrev pub decreases-turns : goal.decreases-turns
decreases-turns g l = l.limit - vec_len l.bytes

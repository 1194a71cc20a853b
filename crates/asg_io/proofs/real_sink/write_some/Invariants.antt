-- A write that was interrupted wrote nothing.
use Rattle.std.specs.Io.KnownBytes.{Keeps}
use Rattle.asg_io.proofs.real_sink.write_some.Given as goal

abbrev pub invariant-tries : goal.invariant-tries
invariant-tries g l = Keeps (g.W.Write.contents l.initial.out) (g.W.Write.contents l.out)

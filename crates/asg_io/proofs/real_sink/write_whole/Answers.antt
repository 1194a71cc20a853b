-- What the turn sent comes after what was sent before.
use Rattle.std.proofs.Common.{arith}
use Rattle.asg_io.proofs.Streams.{Appends-more}
use Rattle.asg_io.proofs.real_sink.write_whole.Goals as goal

pub turns-preserved : goal.turns-preserved
turns-preserved g c = record {
  within = grind arith;
  put = Appends-more _ _ _ c.args.piece.now c.turns.sent c.write_some-count.result c.turns.invariant.put c.write_some-count.ensures.bytes;
}

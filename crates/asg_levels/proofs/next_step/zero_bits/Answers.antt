use Rattle.asg_levels.proofs.Common.{refl, arith}
use Rattle.asg_levels.proofs.ZeroBits.{mask_more}
use Rattle.asg_levels.proofs.next_step.zero_bits.Goals as goal

pub loop-place-preserved : goal.loop-place-preserved
loop-place-preserved c =
    mask_more c.args.numbers.now c.loop-place.place c.loop-place.word c.from.result _ (omega arith) refl c.from.ensures c.loop-place.invariant

use Rattle.asg_thresh.proofs.Common.{refl, arith}
use Rattle.asg_thresh.proofs.WordLemmas.{bits_more}
use Rattle.asg_thresh.proofs.marked_cells.bits_of.Goals as goal

pub loop-place-preserved : goal.loop-place-preserved
loop-place-preserved c =
    bits_more c.args.grades.now c.loop-place.place c.args.limit c.loop-place.word c.from.result _ (omega arith) refl c.from.ensures c.loop-place.invariant

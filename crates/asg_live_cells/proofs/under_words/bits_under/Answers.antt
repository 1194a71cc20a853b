use Rattle.asg_live_cells.proofs.Common.{refl, arith}
use Rattle.asg_live_cells.proofs.UnderLemmas.{mask_more}
use Rattle.asg_live_cells.proofs.under_words.bits_under.Goals as goal

pub loop-place-preserved : goal.loop-place-preserved
loop-place-preserved c =
    mask_more c.args.grades.now c.args.limit c.loop-place.place c.loop-place.word c.from.result _ (omega arith) refl c.from.ensures c.loop-place.invariant

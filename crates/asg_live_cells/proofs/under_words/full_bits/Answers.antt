use Rattle.asg_live_cells.proofs.Common.{ltb, take, sym, subst, arith, length-take, w32, bitmask_splat, AreBitsUnder}
use Rattle.asg_live_cells.proofs.UnderLemmas.{under_mask}
use Rattle.asg_live_cells.proofs.under_words.full_bits.Goals as goal

pub returns : goal.returns
returns c =
    let front = take 64 c.args.grades.now in
    subst (AreBitsUnder c.args.grades.now 64 c.args.limit)
    (sym (bitmask_splat w32 ltb front 64 c.args.limit (omega (arith, length-take 64 c.args.grades.now, c.requires)) (omega arith)))
    (under_mask c.args.grades.now c.args.limit c.requires)

use Rattle.asg_levels.proofs.Common.{eqb, take, ap, ◌∙◌, arith, length-take, w32, bitmask_splat, is_bit_set}
use Rattle.asg_levels.proofs.TightWords.{equal_mask}
use Rattle.asg_levels.proofs.mark_words.equal_bits.Goals as goal

pub returns : goal.returns
returns c k h =
    let front = take 64 c.args.numbers.now in
    ap (λ w. is_bit_set w k) (bitmask_splat w32 eqb front 64 c.args.x (omega (arith, length-take 64 c.args.numbers.now, c.requires)) (omega arith))
    ∙ equal_mask c.args.numbers.now c.args.x k c.requires h

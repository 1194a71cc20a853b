use Rattle.asg_duals.proofs.Common.{◌<◌, arith}
use Rattle.asg_bit_rows.specs.laws.Bits.{bit_below}
use Rattle.asg_duals.proofs.tightness.word_is_above.Goals as goal

pub returns-then-values-first-ge64 : goal.returns-then-values-first-ge64
returns-then-values-first-ge64 c h k has within =
    let low : k < 64 = bit_below c.args.word k (omega (arith, c.ranges.word.fits)) has in
    let above = c.are_above.ensures h k (omega (arith, low, c.word_of.ensures.count)) in
    omega (arith, above, c.word_of.ensures.each k low, c.word_of-then-values-first-ge64.ensures.each k low)

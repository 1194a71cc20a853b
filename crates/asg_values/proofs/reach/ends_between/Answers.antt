-- Both bounds are brought to the costs that an instance may have.
use Rattle.asg_values.proofs.Common.{◌&&◌, int_le, sym, ◌∙◌, arith, to_z-of_z, w64, fits_signed_from_abs}
use Rattle.asg_values.proofs.reach.ends_between.Goals as goal

pub returns-clause-within : goal.returns-clause-within
returns-clause-within c a near =
    let low = c.low_end.result in
    let high = c.high_end.result in
    let same_low = to_z-of_z w64 low (fits_signed_from_abs w64 low (omega (arith, c.low_end.ensures.near))) in
    let same_high = to_z-of_z w64 high (fits_signed_from_abs w64 high (omega (arith, c.high_end.ensures.near))) in
    let least = to_z-of_z w64 c.args.least c.ranges.least in
    let most = to_z-of_z w64 c.args.most c.ranges.most in
    (λ i. int_le (sym least i) a && int_le a (sym most i))
    ∙ (λ i. sym (c.low_end.ensures.within a near) i && sym (c.high_end.ensures.within a near) i)
    ∙ (λ i. int_le (sym same_low i) a && int_le a (sym same_high i))

use Rattle.asg_levels.proofs.Common.{◌&&◌, bit_and, ap, ◌∙◌, w64, Fits-lt-pow, bit_not, is_bit_set, is_and}
use Rattle.asg_levels.proofs.TightWords.{is_or, is_not, two_parts}
use Rattle.asg_levels.proofs.tight.tight_word.Goals as goal

pub returns : goal.returns
returns c k h =
    let ones = bit_and c.args.ones (bit_not w64 c.args.zeros) in
    is_or (bit_and c.args.zeros c.args.equal) (bit_and ones c.args.lesser) k
    ∙ two_parts (is_bit_set (bit_and c.args.zeros c.args.equal) k) (is_bit_set (bit_and ones c.args.lesser) k) _ _
    (is_and c.args.zeros c.args.equal k)
    (is_and ones c.args.lesser k
    ∙ ap (λ b. b && is_bit_set c.args.lesser k)
    (is_and c.args.ones (bit_not w64 c.args.zeros) k ∙ ap (λ b. is_bit_set c.args.ones k && b) (is_not c.args.zeros k (Fits-lt-pow c.ranges.zeros) h)))

use Rattle.asg_levels.proofs.Common.{◌+◌, ◌*◌, not, ◌&&◌, get_or, ap, ◌∙◌, arith, is_bit_set}
use Rattle.asg_levels.proofs.TightWords.{one_more_each, two_parts}
use Rattle.asg_levels.proofs.tight.word_at.Goals as goal

pub word_of-lesser-requires-clause-mark_below : goal.word_of-lesser-requires-clause-mark_below
word_of-lesser-requires-clause-mark_below c = omega (arith, c.requires.marks_below)

pub returns : goal.returns
returns c k h =
    let zeros = get_or c.args.zeros.now c.args.number 0 in
    let ones = get_or c.args.ones.now c.args.number 0 in
    let count = get_or c.args.outs.now (64 * c.args.number + k) 0 in
    c.tight_word.ensures k h
    ∙ two_parts _ _ _ _
    (ap (λ b. is_bit_set zeros k && b) (c.word_of-equal.ensures k h ∙ one_more_each count c.args.ins))
    (ap (λ b. (is_bit_set ones k && not (is_bit_set zeros k)) && b) (c.word_of-lesser.ensures k h))

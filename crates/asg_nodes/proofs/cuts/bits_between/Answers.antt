use Rattle.asg_nodes.proofs.Common.{not, ◌&&◌, bit_and, ap, ◌∙◌, is_bit_set, is_and, is_without}
use Rattle.asg_nodes.proofs.CutWords.{between_bit}
use Rattle.asg_nodes.proofs.cuts.bits_between.Goals as goal

pub returns : goal.returns
returns c k h =
    let word = c.args.word in
    let upto = c.first_bits-upto.result in
    let before = c.first_bits-before.result in
    is_without (bit_and word upto) before k c.first_bits-before.type_inv h
    ∙ ap (λ b. b && not (is_bit_set before k)) (is_and word upto k)
    ∙ between_bit c.args.from c.args.to upto before k (is_bit_set word k) h (c.first_bits-upto.ensures k) (c.first_bits-before.ensures k)

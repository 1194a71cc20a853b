use Rattle.asg_bit_rows.proofs.Common.{◌∙◌}
use Rattle.asg_bit_rows.proofs.RunLemmas.{between_bits}
use Rattle.asg_bit_rows.proofs.row_bits.bits_between.Goals as goal

pub returns : goal.returns
returns c k h =
    c.without.ensures k h
    ∙ between_bits c.args.from c.args.to c.first_bits.result c.first_bits-2.result k h (c.first_bits.ensures k) (c.first_bits-2.ensures k)

use Rattle.asg_bit_rows.proofs.Common.{cond, sym, ap, ◌∙◌, is_bit_set, is_with}
use Rattle.asg_bit_rows.proofs.RunLemmas.{cleared_bit}
use Rattle.asg_bit_rows.proofs.row_bits.with_bits.Goals as goal

pub returns-then-is_set : goal.returns-then-is_set
returns-then-is_set c k h =
    is_with c.args.word c.args.bits k
    ∙ ap (λ b. cond (is_bit_set c.args.bits k) b (is_bit_set c.args.word k)) (sym c.if-is_set.true)

pub returns-else-is_set : goal.returns-else-is_set
returns-else-is_set c k h =
    c.without.ensures k h ∙ cleared_bit (is_bit_set c.args.word k) (is_bit_set c.args.bits k) c.args.is_set c.if-is_set.false

use Rattle.asg_bit_rows.proofs.Common.{◌==◌, sym, ap, ◌∙◌, bit_at_clear_other, bit_at_clear_same, bit_at_set_other, bit_at_set_same}
use Rattle.std.specs.Int.{w64}
use Rattle.asg_bit_rows.proofs.bit_rows.with_bit.Goals as goal

pub returns-then-is_set-clause-same : goal.returns-then-is_set-clause-same
returns-then-is_set-clause-same c = ap (λ n. n == 1) (bit_at_set_same w64 c.args.word c.args.bit c.requires) ∙ sym c.if-is_set.true

pub returns-then-is_set-clause-others : goal.returns-then-is_set-clause-others
returns-then-is_set-clause-others c = λ k below apart. ap (λ n. n == 1) (bit_at_set_other w64 c.args.word c.args.bit c.requires k apart)

pub returns-else-is_set-clause-same : goal.returns-else-is_set-clause-same
returns-else-is_set-clause-same c = ap (λ n. n == 1) (bit_at_clear_same w64 c.args.word c.args.bit c.requires) ∙ sym c.if-is_set.false

pub returns-else-is_set-clause-others : goal.returns-else-is_set-clause-others
returns-else-is_set-clause-others c = λ k below apart. ap (λ n. n == 1) (bit_at_clear_other w64 c.args.word c.args.bit c.requires k below apart)

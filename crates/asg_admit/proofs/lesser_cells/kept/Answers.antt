use Rattle.asg_admit.proofs.Common.{◌∙◌, ⊎_elim, w64, bit_at_clear_other, cases_eq, not_both, HasBit-without, bit_below}
use Rattle.asg_admit.proofs.lesser_cells.kept.Goals as goal

pub returns-else-is_kept-clause-inside : goal.returns-else-is_kept-clause-inside
returns-else-is_kept-clause-inside c = λ k has. (HasBit-without c.args.word c.args.bit k c.requires has).0

pub returns-else-is_kept-clause-others : goal.returns-else-is_kept-clause-others
returns-else-is_kept-clause-others c = λ k has keep.
    ⊎_elim
    (λ same. absurd (not_both c.args.is_kept (keep same) c.if-is_kept.false))
    (λ other. bit_at_clear_other w64 c.args.word c.args.bit c.requires k (bit_below c.args.word k c.ranges.word.fits has) other ∙ has)
    (cases_eq k c.args.bit)

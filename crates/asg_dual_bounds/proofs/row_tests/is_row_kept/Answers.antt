use Rattle.asg_dual_bounds.proofs.Common.{inl, inr}
use Rattle.asg_dual_bounds.proofs.row_tests.is_row_kept.Goals as goal

pub returns-then-falls-row : goal.returns-then-falls-row
returns-then-falls-row c = λ _. inl c.if-falls-row.true

pub returns-else-falls-row : goal.returns-else-falls-row
returns-else-falls-row c = λ h. inr (c.is_row_above.ensures h)

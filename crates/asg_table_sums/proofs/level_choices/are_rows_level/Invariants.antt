use Rattle.asg_table_sums.proofs.Common.{ℕ, ◌<◌, shifted, IsRowLevel}
use Rattle.asg_table_sums.proofs.level_choices.are_rows_level.Given as goal

-- the rows so far are level
abbrev pub invariant-rows : goal.invariant-rows
invariant-rows l = (r : ℕ) → r < l.row → IsRowLevel l.objective l.inst l.choice l.rises (shifted l.top) r

use Rattle.asg_kept_cells.proofs.Common.{◌≡◌, ℕ, ◌<◌, true, get_or, is_some, Some, None, cell_at, masked_grid}
use Rattle.asg_kept_cells.proofs.chosen_cells.has_kept.Given as goal

-- no column so far is a copy with a kept cell
abbrev pub invariant-loop-column : goal.invariant-loop-column
invariant-loop-column g l = (k : ℕ) → k < l.column → get_or l.square.column_labels k None ≡ Some l.place → is_some (cell_at (masked_grid l.square l.kept.words) l.row k) ≡ true → ⊥

-- Squares from which cells are taken out.
use Rattle.std.specs.Prelude.{ℕ, Bool, true, if◌then◌else◌, Option, Some, None, List}
use Rattle.asg_model.specs.Problem.{Problem}
use Rattle.asg_square.specs.Labels.{row_label, column_label}
use Rattle.asg_rankings.specs.Children.{is_kept}

-- a square with the cells that a test keeps
abbrev pub masked : {V : Type 0} → (ℕ → ℕ → Bool) → (ℕ → ℕ → Option V) → ℕ → ℕ → Option V
masked keep square r k = if keep r k then square r k else None

-- a branch keeps the cell of a row of the square that stands for an active row and a column that is
-- a copy of a column, as it keeps that cell of the instance; all other cells stay
abbrev pub keeps_labelled : Problem → List (Option ℕ) → ℕ → Option ℕ → Option ℕ → Bool
keeps_labelled X f branch (Some r) (Some d) = is_kept X f branch (r, d)
keeps_labelled X f branch _ _ = true

-- a branch keeps a cell of the square
abbrev pub keeps_cell : Problem → List (Option ℕ) → ℕ → ℕ → ℕ → Bool
keeps_cell X f branch r k = keeps_labelled X f branch (row_label X r) (column_label X k)

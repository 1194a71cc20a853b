-- What a square of sums keeps.
use Rattle.std.specs.Prelude.{◌≡◌, ℕ, Bool, IsTrue, List, slice_index}
use Rattle.asg_square.specs.Grid.{Grid}
use Rattle.asg_phase_totals.specs.Duals.{AreDuals}

-- no number of the list is greater than 0
abbrev pub AreZeros : List ℕ → Type 0
AreZeros numbers = (i : ℕ) → slice_index numbers i ≡ 0

-- dual variables, and none is greater than 0 where the cells are written out
pub record KeepsSums (bound : ℕ) (Q : Grid ℕ) (rows columns : List ℕ) (index greatest : ℕ)
    (is_written : Bool) : Type 0 where
  pub duals : AreDuals bound Q rows columns index greatest
  pub zero_rows : IsTrue is_written → AreZeros rows
  pub zero_columns : IsTrue is_written → AreZeros columns

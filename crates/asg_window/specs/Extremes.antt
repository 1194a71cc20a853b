-- The least and the greatest grade of some live cells.
use Rattle.std.specs.Prelude.{◌≡◌, ℕ, ◌<◌, ◌≤◌, List, Option, Some, slice_index}
use Rattle.asg_square.specs.Grid.{Grid, cell_at}
use Rattle.asg_window.specs.declared.spreads.Extremes.{Extremes}
use Rattle.asg_window.specs.Grades.{no_bound}

-- the extremes with the grade of a cell, if it is live
pub record IsOneMore (before : Extremes) (cell : Option ℕ) (after : Extremes) : Type 0 where
  pub lower : after.least ≤ before.least
  pub higher : before.greatest ≤ after.greatest
  pub top : after.greatest ≤ no_bound
  pub holds : (grade : ℕ) → cell ≡ Some grade → 0 < grade
      → (after.least ≤ grade) × (grade ≤ after.greatest)
  pub least : (bound : ℕ) → bound ≤ before.least
      → ((grade : ℕ) → cell ≡ Some grade → 0 < grade → bound ≤ grade) → bound ≤ after.least
  pub greatest : (bound : ℕ) → before.greatest ≤ bound
      → ((grade : ℕ) → cell ≡ Some grade → 0 < grade → grade ≤ bound) → after.greatest ≤ bound

-- the extremes of the grades of the first rows of an assignment
pub record AreExtremes (Q : Grid ℕ) (perm : List ℕ) (count : ℕ) (extremes : Extremes) : Type 0 where
  pub top : extremes.greatest ≤ no_bound
  pub holds : (r grade : ℕ) → r < count → cell_at Q r (slice_index perm r) ≡ Some grade → 0 < grade
      → (extremes.least ≤ grade) × (grade ≤ extremes.greatest)
  pub least : (bound : ℕ) → bound ≤ no_bound
      → ((r grade : ℕ) → r < count → cell_at Q r (slice_index perm r) ≡ Some grade → 0 < grade → bound ≤ grade)
      → bound ≤ extremes.least
  pub greatest : (bound : ℕ)
      → ((r grade : ℕ) → r < count → cell_at Q r (slice_index perm r) ≡ Some grade → 0 < grade → grade ≤ bound)
      → extremes.greatest ≤ bound

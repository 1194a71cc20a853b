-- Lower bounds of the greatest grade of an assignment.
use Rattle.std.specs.Prelude.{◌≡◌, ℕ, ◌<◌, ◌≤◌, List, length, slice_index}
use Rattle.asg_thresh.specs.Grades.{grade_at}

-- no grade of the row is less
pub record IsRowBound (grades : List ℕ) (side row grade : ℕ) : Type 0 where
  pub row_below : row < side
  pub least : (c : ℕ) → c < side → grade ≤ grade_at grades side row c

-- no grade of the column is less
pub record IsColumnBound (grades : List ℕ) (side column grade : ℕ) : Type 0 where
  pub column_below : column < side
  pub least : (r : ℕ) → r < side → grade ≤ grade_at grades side r column

-- the numbers below a count, in order
pub record AreAllBelow (count : ℕ) (numbers : List ℕ) : Type 0 where
  pub length_is : length numbers ≡ count
  pub each : (k : ℕ) → k < count → slice_index numbers k ≡ k

-- Grades: whole numbers in place of costs, less for a better cost, so that one search serves both
-- bottleneck objectives. A square of grades is listed row by row.
use Rattle.std.specs.Prelude.{◌≡◌, ℕ, pos, ◌+ℤ◌, ◌-ℤ◌, ◌+◌, ◌*◌, ◌<◌, ◌≤◌, Option, Some, None, List, length, slice_index, slice_index_or, unsigned_abs}
use Rattle.std.specs.Option.{unwrap_or}
use Rattle.asg_model.specs.declared.objectives.Objective.{Objective}
use Rattle.asg_model.specs.declared.objectives.Objective.TheVariants.{BottleneckMax}
use Rattle.asg_model.specs.declared.parts.Cost.{Cost}
use Rattle.asg_model.specs.Limits.{most_cost}
use Rattle.asg_model.specs.Problem.{Problem}
use Rattle.asg_square.specs.Grid.{Grid, cell_at, IsSquareOf}

-- the grade of a cost: its distance from one past the best cost that there may be, from 1 on
abbrev pub grade_of : Objective → Cost → ℕ
grade_of BottleneckMax cost = unsigned_abs (pos (most_cost + 1) -ℤ cost.a)
grade_of _ cost = unsigned_abs (cost.a +ℤ pos (most_cost + 1))

-- the grade of a free cell, under those of all costs
abbrev pub free_grade : ℕ
free_grade = 0

-- the grade that stands for no cell, past those of all costs
abbrev pub no_grade : ℕ
no_grade = 2 * most_cost + 2

-- the grade in row r and column c
abbrev pub grade_at : List ℕ → ℕ → ℕ → ℕ → ℕ
grade_at grades side r c = slice_index grades (r * side + c)

-- the cells with a grade of at most the limit
pub record IsUpTo (grades : List ℕ) (side limit : ℕ) (r c : ℕ) : Type 0 where
  pub row : r < side
  pub column : c < side
  pub grade : grade_at grades side r c ≤ limit

-- the cells with a grade of less than the limit
pub record IsUnder (grades : List ℕ) (side limit : ℕ) (r c : ℕ) : Type 0 where
  pub row : r < side
  pub column : c < side
  pub grade : grade_at grades side r c < limit

-- cells of a square, from one place to another row by row: each absent one got the grade of no cell
pub record Grades (Q after : Grid ℕ) (first end : ℕ) : Type 0 where
  pub same : record after { cells = Q.cells } ≡ Q
  pub size : length after.cells ≡ length Q.cells
  pub inside : (k : ℕ) → first ≤ k → k < end → slice_index_or after.cells k None ≡ Some (unwrap_or (slice_index_or Q.cells k None) no_grade)
  pub before : (k : ℕ) → k < first → slice_index_or after.cells k None ≡ slice_index_or Q.cells k None
  pub past : (k : ℕ) → end ≤ k → slice_index_or after.cells k None ≡ slice_index_or Q.cells k None

-- the square has the grades of the cells of an instance's square, and the grade of no cell where
-- that has none; `cells` are those of the instance's square
pub record IsGradedSquareOf (X : Problem) (objective : Objective) (Q : Grid ℕ) : Type 0 where
  pub cells : List (Option ℕ)
  pub square : IsSquareOf X free_grade (grade_of objective) (record Q { cells = cells })
  pub graded : Grades (record Q { cells = cells }) Q 0 (Q.side * Q.side)

-- the grades are the values of a square's cells
pub record AreGradesOf (Q : Grid ℕ) (grades : List ℕ) : Type 0 where
  pub count : length grades ≡ Q.side * Q.side
  pub cells : (r c : ℕ) → r < Q.side → c < Q.side → grade_at grades Q.side r c ≡ unwrap_or (cell_at Q r c) no_grade

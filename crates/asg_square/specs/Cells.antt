-- The cells of the square of an instance, and its perfect assignments.
use Rattle.std.specs.Prelude.{◌≡◌, ◌≢◌, ℕ, ◌<◌, ◌&&◌, if◌then◌else◌, nat_lt, Option, None, IsSome, List, length, map, AllPairs, slice_index, filter_map}
use Rattle.std.specs.List.{range_with_len}
use Rattle.std.specs.Option.{option_and_then, option_map_or}
use Rattle.asg_model.specs.declared.parts.Cost.{Cost}
use Rattle.asg_model.specs.Problem.{Problem}
use Rattle.asg_model.specs.Values.{chosen_cost}
use Rattle.asg_model.specs.Shapes.{square_side}
use Rattle.asg_cell_tables.specs.LabelledCells.{labelled_cell}
use Rattle.asg_square.specs.Labels.{column_label, row_label}

-- the cell of the square
abbrev pub square_cell : {V : Type 0} → Problem → V → (Cost → V) → ℕ → ℕ → Option V
square_cell X free enter r c =
    if nat_lt r (square_side X) && nat_lt c (square_side X) then labelled_cell X free enter (row_label X r) (column_label X c) else None

-- the cell is present
abbrev pub IsPresent : {V : Type 0} → (ℕ → ℕ → Option V) → ℕ → ℕ → Type 0
IsPresent cells r c = IsSome (cells r c)

-- a perfect assignment: a list over the rows of different columns whose cells are all present
pub record IsAssignment {V : Type 0} (cells : ℕ → ℕ → Option V) (side : ℕ) (p : List ℕ) : Type 0 where
  pub over : length p ≡ side
  pub apart : AllPairs ◌≢◌ p
  pub present : (r : ℕ) → r < side → IsPresent cells r (slice_index p r)

-- what a counted row chooses by an assignment: the column whose copy it takes
abbrev pub chosen_by : Problem → List ℕ → ℕ → Option ℕ
chosen_by X p r = option_and_then (λ _. column_label X (slice_index p r)) (row_label X r)

-- the choice of an assignment
abbrev pub choice_of : Problem → List ℕ → List (Option ℕ)
choice_of X p = map (chosen_by X p) (range_with_len 0 (length X.rows))

-- the values of the assignment's cells, in the order of the rows
abbrev pub assignment_values : {V : Type 0} → (ℕ → ℕ → Option V) → ℕ → List ℕ → List V
assignment_values cells side p = filter_map (λ r. cells r (slice_index p r)) (range_with_len 0 side)

-- the entered cost of a row that chooses, the free value of any other row
abbrev pub entered_or_free : {V : Type 0} → Problem → V → (Cost → V) → List (Option ℕ) → ℕ → V
entered_or_free X free enter f r = option_map_or enter (chosen_cost X f r) free

-- the choice is that of some perfect assignment of the square
abbrev pub IsSquareChoice : {V : Type 0} → Problem → V → (Cost → V) → List (Option ℕ) → Type 0
IsSquareChoice X free enter f = (p : List ℕ) × IsAssignment (square_cell X free enter) (square_side X) p × (choice_of X p ≡ f)

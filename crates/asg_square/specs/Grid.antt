-- What contracts see of a square.
use Rattle.std.specs.Prelude.{◌≡◌, ℕ, ◌≤◌, IsTrue, Option, None, List, length, map, IsSome, is_some, slice_index_or, slice_index}
use Rattle.std.specs.List.{range_with_len}
use Rattle.std.specs.Option.{option_and_then}
use Rattle.asg_model.specs.declared.parts.Cost.{Cost}
use Rattle.asg_model.specs.declared.bands.Band.TheVariants.{Whole}
use Rattle.asg_model.specs.Problem.{Problem}
use Rattle.asg_model.specs.Instances.{IsInstance}
use Rattle.asg_model.specs.ValidChoice.{IsValid}
use Rattle.asg_model.specs.Shapes.{square_side}
use Rattle.asg_square.specs.Labels.{row_label, column_label}
use Rattle.asg_square.specs.Cells.{square_cell, IsAssignment}
use Rattle.asg_square.specs.Presence.{has_cell}
use Rattle.asg_cell_tables.specs.CellTable.{CellTable, IsCellTable, entry_at}
use Rattle.asg_cell_tables.specs.LabelledCells.{Entering}

-- a square: its side, how many of its rows are rows of the instance, what its rows and columns
-- stand for, and its cells row by row
pub record Grid (V : Type 0) : Type 0 where
  pub side : ℕ
  pub rows : ℕ
  pub row_labels : List (Option ℕ)
  pub column_labels : List (Option ℕ)
  pub cells : List (Option V)

-- the square of these parts
abbrev pub grid_of : {V : Type 0} → ℕ → List (Option ℕ) → List (Option ℕ) → CellTable V → Grid V
grid_of rows row_labels column_labels cells =
    record { side = cells.side; rows = rows; row_labels = row_labels; column_labels = column_labels; cells = cells.cells }

-- the cell at a row and a column, none outside the side: the map of the square
abbrev pub cell_at : {V : Type 0} → Grid V → ℕ → ℕ → Option V
cell_at Q = entry_at Q.side Q.cells

-- what a square keeps: a label for each row and column, and as many cells as places
pub record IsGrid {V : Type 0} (Q : Grid V) : Type 0 where
  pub row_count : length Q.row_labels ≡ Q.side
  pub column_count : length Q.column_labels ≡ Q.side
  pub rows_within : Q.rows ≤ Q.side
  pub table : IsCellTable (record { side = Q.side; cells = Q.cells })

-- the square has the side, the rows and the labels of the square of the instance
pub record HasLabelsOf {V : Type 0} (X : Problem) (Q : Grid V) : Type 0 where
  pub side : Q.side ≡ square_side X
  pub rows : Q.rows ≡ length X.rows
  pub row_labels : Q.row_labels ≡ map (row_label X) (range_with_len 0 (square_side X))
  pub column_labels : Q.column_labels ≡ map (column_label X) (range_with_len 0 (square_side X))

-- the square has the cells of the square of the instance
abbrev pub HasCellsOf : {V : Type 0} → Problem → V → (Cost → V) → Grid V → Type 0
HasCellsOf X free enter Q = (r c : ℕ) → cell_at Q r c ≡ square_cell X free enter r c

-- the square has cells exactly where that of the instance has some
abbrev pub HasPresenceOf : {V : Type 0} → Problem → Grid V → Type 0
HasPresenceOf X Q = (r c : ℕ) → is_some (cell_at Q r c) ≡ has_cell X Whole r c

-- the square is that of the instance
pub record IsSquareOf {V : Type 0} (X : Problem) (free : V) (enter : Cost → V) (Q : Grid V) : Type 0 where
  pub labels : HasLabelsOf X Q
  pub cells : HasCellsOf X free enter Q

-- the square is that of the instance, where live costs enter so
abbrev pub IsSquareBy : {V : Type 0} → Problem → V → (Cost → V → Type 0) → Grid V → Type 0
IsSquareBy X free enters Q = Entering X enters (λ entered. IsSquareOf X free entered Q)

-- the square has the labels of the instance's, and cells only where the instance's has some: so
-- also after steps, which change values alone
pub record IsWithinSquareOf {V : Type 0} (X : Problem) (Q : Grid V) : Type 0 where
  pub labels : HasLabelsOf X Q
  pub cells : (r c : ℕ) → IsSome (cell_at Q r c) → IsTrue (has_cell X Whole r c)

-- the square has the labels of the instance's, and a cell wherever the instance's has one
pub record CoversSquareOf {V : Type 0} (X : Problem) (Q : Grid V) : Type 0 where
  pub labels : HasLabelsOf X Q
  pub cells : (r c : ℕ) → IsTrue (has_cell X Whole r c) → IsSome (cell_at Q r c)

-- a perfect assignment of the square
abbrev pub IsPerm : {V : Type 0} → Grid V → List ℕ → Type 0
IsPerm Q p = IsAssignment (cell_at Q) Q.side p

-- what a row chooses by an assignment
abbrev pub grid_chosen : {V : Type 0} → Grid V → List ℕ → ℕ → Option ℕ
grid_chosen Q p r = option_and_then (λ _. slice_index_or Q.column_labels (slice_index p r) None) (slice_index_or Q.row_labels r None)

-- the choice of an assignment
abbrev pub grid_choice : {V : Type 0} → Grid V → List ℕ → List (Option ℕ)
grid_choice Q p = map (grid_chosen Q p) (range_with_len 0 Q.rows)

-- a perfect assignment of the square with this choice
pub record IsPermOf {V : Type 0} (Q : Grid V) (f : List (Option ℕ)) (p : List ℕ) : Type 0 where
  pub perm : IsPerm Q p
  pub choice : grid_choice Q p ≡ f

-- the choice is valid in each instance within whose square this square lies
abbrev pub IsValidWithin : {V : Type 0} → Grid V → List (Option ℕ) → Type 0
IsValidWithin Q f = (X : Problem) → IsInstance X → IsWithinSquareOf X Q → IsValid X f

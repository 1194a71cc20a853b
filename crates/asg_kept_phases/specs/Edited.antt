-- Which cells of the square an edit may change.
use Rattle.std.specs.Prelude.{◌≡◌, ℕ, Some}
use Rattle.asg_model.specs.declared.edits.Edit.{Edit}
use Rattle.asg_model.specs.declared.edits.Edit.TheVariants.{Cost as SetCost, Forbid, DropRow, DropColumn}
use Rattle.asg_model.specs.HallSet.{row_place_of, column_place_of}
use Rattle.asg_model.specs.Problem.{Problem}
use Rattle.asg_square.specs.Labels.{column_label}

-- the square row r and the square column c are among those whose cells an edit may change: the row
-- that it names, and the copies of the column that it names
abbrev pub Touches : Problem → Edit → ℕ → ℕ → Type 0
Touches X (SetCost row col cost) r c =
    (row_place_of X row ≡ Some r) × (column_label X c ≡ column_place_of X col)
Touches X (Forbid row col) r c =
    (row_place_of X row ≡ Some r) × (column_label X c ≡ column_place_of X col)
Touches X (DropRow row) r c = row_place_of X row ≡ Some r
Touches X (DropColumn col) r c = column_label X c ≡ column_place_of X col

-- the rows and columns that an edit names are there
abbrev pub NamesPlaces : Problem → Edit → Type 0
NamesPlaces X (SetCost row col cost) =
    ((r : ℕ) × (row_place_of X row ≡ Some r)) × ((c : ℕ) × (column_place_of X col ≡ Some c))
NamesPlaces X (Forbid row col) =
    ((r : ℕ) × (row_place_of X row ≡ Some r)) × ((c : ℕ) × (column_place_of X col ≡ Some c))
NamesPlaces X (DropRow row) = (r : ℕ) × (row_place_of X row ≡ Some r)
NamesPlaces X (DropColumn col) = (c : ℕ) × (column_place_of X col ≡ Some c)

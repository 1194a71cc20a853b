-- The places that an edit names, and the cells of the square that stand for them.
use Rattle.std.specs.Prelude.{◌≡◌, ℕ, Option, Some, None, slice_index_or, map}
use Rattle.std.specs.List.{range_with_len}
use Rattle.std.specs.Option.{option_and_then}
use Rattle.asg_model.specs.declared.edits.Edit.{Edit}
use Rattle.asg_model.specs.Edits.{named_row, named_column}
use Rattle.asg_model.specs.HallSet.{row_place_of, column_place_of}
use Rattle.asg_model.specs.Problem.{Problem}
use Rattle.asg_model.specs.Shapes.{square_side}
use Rattle.asg_square.specs.Grid.{Grid}
use Rattle.asg_square.specs.Labels.{column_label}
use Rattle.asg_kept_phases.specs.declared.named_places.NamedPlaces.{NamedPlaces}

-- the places of the row and the column that an edit names
abbrev pub places_of : Problem → Edit → NamedPlaces
places_of X edit = record {
  row = option_and_then (row_place_of X) (named_row edit);
  column = option_and_then (column_place_of X) (named_column edit);
}

-- a row of the square is that of a place, where there is one
abbrev pub IsAtRow : Option ℕ → ℕ → Type 0
IsAtRow None r = Unit {0}
IsAtRow (Some p) r = r ≡ p

-- a column of the square is a copy of that of a place, where there is one
abbrev pub IsAtColumn : Option ℕ → Option ℕ → Type 0
IsAtColumn None label = Unit {0}
IsAtColumn (Some q) label = label ≡ Some q

-- a cell of the square stands for the places
abbrev pub IsNamed : NamedPlaces → (ℕ → Option ℕ) → ℕ → ℕ → Type 0
IsNamed places label_of r k = IsAtRow places.row r × IsAtColumn places.column (label_of k)

-- what a column of a square is a copy of
abbrev pub label_at : {V : Type 0} → Grid V → ℕ → Option ℕ
label_at Q k = slice_index_or Q.column_labels k None

-- the square has the side and the columns of the square of the instance
pub record HasColumnsOf {V : Type 0} (X : Problem) (Q : Grid V) : Type 0 where
  pub side : Q.side ≡ square_side X
  pub columns : Q.column_labels ≡ map (column_label X) (range_with_len 0 (square_side X))

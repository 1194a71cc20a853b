-- Edits of an instance, and which of them are refused.
use Rattle.std.specs.Prelude.{ℕ, ◌==◌, ◌&&◌, not, Bool, true, false, if◌then◌else◌, Option, Some, None, is_none, List, [], ◌∷◌, map, unsigned_abs, nat_le, unwrap_or}
use Rattle.std.specs.BTreeMap.{insert_entry, is_at}
use Rattle.std.specs.List.{find}
use Rattle.std.specs.Map.{remove_entry}
use Rattle.std.specs.Option.{option_map_or}
use Rattle.asg_model.specs.declared.edits.Edit.{Edit}
use Rattle.asg_model.specs.declared.edits.Edit.TheVariants.{Cost as SetCost, Forbid, DropRow, DropColumn}
use Rattle.asg_model.specs.declared.edits.EditRefusal.{EditRefusal}
use Rattle.asg_model.specs.declared.edits.EditRefusal.TheVariants.{NoSuchRow, NoSuchColumn, RowDropped, ColumnDropped, CostRange, LastRow, NegativeCost, NoMemory}
use Rattle.asg_model.specs.declared.objectives.Objective.{Objective}
use Rattle.asg_model.specs.declared.parts.Column.{Column}
use Rattle.asg_model.specs.declared.parts.Cost.{Cost}
use Rattle.asg_model.specs.declared.parts.Row.{Row}
use Rattle.asg_model.specs.Counts.{active_count}
use Rattle.asg_model.specs.HallSet.{row_place_of, column_place_of}
use Rattle.asg_model.specs.Instances.{by_places}
use Rattle.asg_model.specs.Limits.{most_cost}
use Rattle.asg_model.specs.Live.{is_active, is_open}
use Rattle.asg_model.specs.Problem.{Problem, problem_of}
use Rattle.asg_model.specs.Refused.{is_refused}

-- the row, dropped if it has this id
abbrev pub dropped : ℕ → Row → Row
dropped id row = if row.id == id then record row { active = false } else row

-- the column, closed if it has this id
abbrev pub closed : ℕ → Column → Column
closed id column = if column.id == id then record column { usable = false } else column

-- cells in which the one at a place has this cost, or none
abbrev pub with_cell : List ((ℕ × ℕ) × Cost) → ℕ × ℕ → Option Cost → List ((ℕ × ℕ) × Cost)
with_cell cells place None = remove_entry (is_at (by_places place)) cells
with_cell cells place (Some cost) = insert_entry by_places cells place cost

-- the places of the row and the column that have these ids
abbrev pub place_of : Problem → ℕ → ℕ → ℕ × ℕ
place_of X row col = (unwrap_or (row_place_of X row) 0, unwrap_or (column_place_of X col) 0)

-- the instance in which the cell of the row and the column that have these ids has this cost, or
-- none
abbrev pub with_cell_of : Problem → ℕ → ℕ → Option Cost → Problem
with_cell_of X row col cell =
    problem_of X.rows X.columns (with_cell X.cells (place_of X row col) cell) X.place

-- the instance in which the row that has this id is dropped
abbrev pub with_row_dropped : Problem → ℕ → Problem
with_row_dropped X row = problem_of (map (dropped row) X.rows) X.columns X.cells X.place

-- the instance in which the column that has this id is closed
abbrev pub with_column_closed : Problem → ℕ → Problem
with_column_closed X col = problem_of X.rows (map (closed col) X.columns) X.cells X.place

-- the instance after an edit
abbrev pub edited : Problem → Edit → Problem
edited X (SetCost row col cost) = with_cell_of X row col (Some cost)
edited X (Forbid row col) = with_cell_of X row col None
edited X (DropRow row) = with_row_dropped X row
edited X (DropColumn col) = with_column_closed X col

-- the instance after edits, one after the other
abbrev pub edited_by : Problem → List Edit → Problem
edited_by X [] = X
edited_by X (edit ∷ edits) = edited_by (edited X edit) edits

-- the row that an edit names, if it names one
abbrev pub named_row : Edit → Option ℕ
named_row (SetCost row col cost) = Some row
named_row (Forbid row col) = Some row
named_row (DropRow row) = Some row
named_row (DropColumn col) = None

-- the column that an edit names, if it names one
abbrev pub named_column : Edit → Option ℕ
named_column (SetCost row col cost) = Some col
named_column (Forbid row col) = Some col
named_column (DropRow row) = None
named_column (DropColumn col) = Some col

-- the cost that an edit gives, if it gives one
abbrev pub given_cost : Edit → Option Cost
given_cost (SetCost row col cost) = Some cost
given_cost _ = None

-- the edit drops a row
abbrev pub drops_row : Edit → Bool
drops_row (DropRow row) = true
drops_row _ = false

-- the cost is one that an instance may have
abbrev pub is_cost_in_range : Cost → Bool
is_cost_in_range cost =
    nat_le (unsigned_abs cost.a) most_cost && nat_le (unsigned_abs cost.b) most_cost

-- the refusal applies to the edit: it names a row or a column that isn't there, or one that is
-- dropped or closed; its cost is out of range; it drops the only active row; the objective refuses
-- its cost
abbrev pub applies : Objective → Problem → Edit → EditRefusal → Bool
applies objective X edit NoSuchRow =
    option_map_or (λ id. is_none (row_place_of X id)) (named_row edit) false
applies objective X edit NoSuchColumn =
    option_map_or (λ id. is_none (column_place_of X id)) (named_column edit) false
applies objective X edit RowDropped =
    option_map_or (λ id. not (option_map_or (is_active X) (row_place_of X id) false))
    (named_row edit) false
applies objective X edit ColumnDropped =
    option_map_or (λ id. not (option_map_or (is_open X) (column_place_of X id) false))
    (named_column edit) false
applies objective X edit CostRange =
    option_map_or (λ cost. not (is_cost_in_range cost)) (given_cost edit) false
applies objective X edit LastRow = drops_row edit && (active_count X == 1)
applies objective X edit NegativeCost = option_map_or (is_refused objective) (given_cost edit) false
applies objective X edit NoMemory = false

-- the refusals in the order in which they are tested
abbrev pub refusals : List EditRefusal
refusals =
    NoSuchRow ∷ NoSuchColumn ∷ RowDropped ∷ ColumnDropped ∷ CostRange ∷ LastRow ∷ NegativeCost ∷ []

-- the first refusal that applies to an edit, if one does
abbrev pub refusal_of : Objective → Problem → Edit → Option EditRefusal
refusal_of objective X edit = find (applies objective X edit) refusals

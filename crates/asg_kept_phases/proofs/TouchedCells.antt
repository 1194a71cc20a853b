-- The cells of the square that an edit touches, as they are after it.
use Rattle.asg_kept_phases.proofs.Common.{◌≡◌, ℕ, ◌<◌, Bool, true, false, cond, not, ◌&&◌, List, map, length, get_or, nat_lt, ◌==◌, slice_get, Some, None, Option, option_map, sym, refl, ap, ◌∙◌, subst, arith, lt-ltb, cond-true, length-map, not-false, option_map_or, position-Some, slice_get-get_or, slice_get-map, edited_side, dropped_cell, closed_cell, NamesPlaces-passed, dropped, closed, edited, place_of, with_cell_of, with_row_dropped, with_column_closed, refusal_of, IsInstance, Problem, problem_of, square_side, Edit, Objective, Cost, square_cell, row_label, column_label}
use Rattle.std.proofs.Common.{unwrap_or}
use Rattle.std.specs.Cmp.Derive.{both_true}
use Rattle.asg_model.specs.declared.edits.EditRefusal.TheVariants.{NoMemory}
use Rattle.asg_model.specs.declared.parts.Column.{Column}
use Rattle.asg_model.specs.declared.parts.Place.{Place}
use Rattle.asg_model.specs.declared.parts.Row.{Row}
use Rattle.asg_model.specs.Counts.{is_counted, is_counted_by}
use Rattle.asg_model.specs.HallSet.{row_place_of, column_place_of}
use Rattle.asg_model.specs.Live.{cost_at, is_active, is_open, live_at}
use Rattle.asg_model.specs.laws.Rows.{no_row, no_column}
use Rattle.asg_cell_tables.specs.LabelledCells.{labelled_cell}
use Rattle.asg_kept_phases.specs.Edited.{Touches}
use Rattle.asg_kept_phases.specs.laws.EditedLabels.{edited_label}
use Rattle.asg_values.specs.laws.Passed.{none_applies}
use Rattle.asg_values.specs.laws.WrittenCells.{written_cell}
use Rattle.asg_model.specs.declared.edits.Edit.TheVariants.{Cost as SetCost, Forbid, DropRow, DropColumn}
use Rattle.asg_model.specs.declared.parts.Place.TheVariants.{All as PlaceAll, Exactly}

-- a place that is found and passes
passes_at : (p : ℕ → Bool) (o : Option ℕ) (k : ℕ) → o ≡ Some k → not (option_map_or p o false) ≡ false → p k ≡ true
passes_at p o k e h = sym (ap (λ q. option_map_or p q false) e) ∙ not-false (option_map_or p o false) h

-- ---- cells of a square

module _ {V : Type 0} (free : V) (enter : Cost → V) where
  -- the cell at a place whose labels are known
  cell_labelled : (X : Problem) (r k : ℕ) (row column : Option ℕ) → r < square_side X → k < square_side X → row_label X r ≡ row → column_label X k ≡ column → square_cell X free enter r k ≡ labelled_cell X free enter row column
  cell_labelled X r k row column hr hk e f =
      cond-true (nat_lt r (square_side X) && nat_lt k (square_side X)) (labelled_cell X free enter (row_label X r) (column_label X k)) None
      (both_true (lt-ltb r (square_side X) hr) (lt-ltb k (square_side X) hk))
      ∙ (λ i. labelled_cell X free enter (e i) (f i))

  live_is : (X : Problem) (r q : ℕ) (cost : Option Cost) → is_active X r ≡ true → is_open X q ≡ true → cost_at X.cells r q ≡ cost → live_at X r q ≡ cost
  live_is X r q cost active usable at =
      cond-true (is_active X r && is_open X q) (cost_at X.cells r q) None (both_true active usable) ∙ at

  counted_active : (place : Place) (active there : Bool) → active ≡ true → there ≡ true → is_counted_by place active there ≡ true
  counted_active PlaceAll active there a b = a
  counted_active (Exactly k) active there a b = b

  -- the cell that gets a cost, or loses it
  cell_written : (X : Problem) (row col : ℕ) (cell : Option Cost) (r k q : ℕ) → IsInstance X → row_place_of X row ≡ Some r → column_place_of X col ≡ Some q → column_label X k ≡ Some q → is_active X r ≡ true → is_open X q ≡ true → r < square_side X → k < square_side X → square_cell (with_cell_of X row col cell) free enter r k ≡ option_map enter cell
  cell_written X row col cell r k q is at_row at_column label active usable hr hk =
      let found = position-Some (λ (x : Row). x.id == row) X.rows r no_row at_row in
      let counted : is_counted X r ≡ true = counted_active X.place (is_active X r) (nat_lt r (length X.rows)) active (lt-ltb r (length X.rows) found.0) in
      let at = written_cell (place_of X row col) r q (ap (λ o. unwrap_or o 0) at_row) (ap (λ o. unwrap_or o 0) at_column) X.cells cell is.cells_ascend in
      cell_labelled (with_cell_of X row col cell) r k (Some r) (Some q) hr hk (ap (λ b. cond b (Some r) None) counted) label
      ∙ ap (option_map enter) (live_is (with_cell_of X row col cell) r q cell active usable at)

  -- ---- a row that is dropped

  dropped_off : (X : Problem) (id r : ℕ) → row_place_of X id ≡ Some r → is_active (with_row_dropped X id) r ≡ false
  dropped_off X id r at =
      let found = position-Some (λ (x : Row). x.id == id) X.rows r no_row at in
      let row = get_or X.rows r no_row in
      ap (λ (o : Option Row). option_map_or (λ x. x.active) o false)
      (slice_get-map (dropped id) X.rows r ∙ ap (option_map (dropped id)) (slice_get-get_or X.rows r no_row found.0))
      ∙ ap (λ (x : Row). x.active) (cond-true (row.id == id) (record row { active = false }) row found.1)

  dropped_by : (rows : List Row) (columns : List Column) (cells : List ((ℕ × ℕ) × Cost)) (place : Place) (label : Option ℕ) (r : ℕ) → is_active (problem_of rows columns cells place) r ≡ false → nat_lt r (length rows) ≡ true → labelled_cell (problem_of rows columns cells place) free enter (row_label (problem_of rows columns cells place) r) label ≡ dropped_cell place label free
  dropped_by rows columns cells PlaceAll (Some d) r off there =
      ap (λ b. labelled_cell (problem_of rows columns cells PlaceAll) free enter (cond b (Some r) None) (Some d)) off
  dropped_by rows columns cells PlaceAll None r off there =
      ap (λ b. labelled_cell (problem_of rows columns cells PlaceAll) free enter (cond b (Some r) None) None) off
  dropped_by rows columns cells (Exactly k) (Some d) r off there =
      let X = problem_of rows columns cells (Exactly k) in
      ap (λ b. labelled_cell X free enter (cond b (Some r) None) (Some d)) there
      ∙ ap (λ b. option_map enter (cond (b && is_open X d) (cost_at cells r d) None)) off
  dropped_by rows columns cells (Exactly k) None r off there =
      ap (λ b. labelled_cell (problem_of rows columns cells (Exactly k)) free enter (cond b (Some r) None) None) there

  -- the cells of a dropped row
  dropped_row_cell : (X : Problem) (id r k : ℕ) (label : Option ℕ) → row_place_of X id ≡ Some r → column_label X k ≡ label → r < square_side X → k < square_side X → square_cell (with_row_dropped X id) free enter r k ≡ dropped_cell X.place label free
  dropped_row_cell X id r k label at e hr hk =
      let Y = with_row_dropped X id in
      let found = position-Some (λ (x : Row). x.id == id) X.rows r no_row at in
      let size = length-map X.rows (dropped id) in
      let side : square_side Y ≡ square_side X = edited_side X (DropRow id) in
      cell_labelled Y r k (row_label Y r) label (subst (λ n. r < n) (sym side) hr) (subst (λ n. k < n) (sym side) hk) refl e
      ∙ dropped_by (map (dropped id) X.rows) X.columns X.cells X.place label r (dropped_off X id r at)
      (lt-ltb r (length (map (dropped id) X.rows)) (subst (λ n. r < n) (sym size) found.0))

  -- ---- a column that is closed

  closed_off : (X : Problem) (id q : ℕ) → column_place_of X id ≡ Some q → is_open (with_column_closed X id) q ≡ false
  closed_off X id q at =
      let found = position-Some (λ (x : Column). x.id == id) X.columns q no_column at in
      let column = get_or X.columns q no_column in
      ap (λ (o : Option Column). option_map_or (λ x. x.usable) o false)
      (slice_get-map (closed id) X.columns q ∙ ap (option_map (closed id)) (slice_get-get_or X.columns q no_column found.0))
      ∙ ap (λ (x : Column). x.usable) (cond-true (column.id == id) (record column { usable = false }) column found.1)

  no_cost : (active : Bool) (cost : Option Cost) → cond (active && false) cost None ≡ None
  no_cost true cost = refl
  no_cost false cost = refl

  closed_by : (Y : Problem) (counted : Bool) (r q : ℕ) → is_open Y q ≡ false → labelled_cell Y free enter (cond counted (Some r) None) (Some q) ≡ closed_cell counted free
  closed_by Y true r q off =
      ap (λ b. option_map enter (cond (is_active Y r && b) (cost_at Y.cells r q) None)) off
      ∙ ap (option_map enter) (no_cost (is_active Y r) (cost_at Y.cells r q))
  closed_by Y false r q off = refl

  -- the cells of a closed column
  closed_column_cell : (X : Problem) (id r k q : ℕ) → column_place_of X id ≡ Some q → column_label X k ≡ Some q → r < square_side X → k < square_side X → square_cell (with_column_closed X id) free enter r k ≡ closed_cell (is_counted X r) free
  closed_column_cell X id r k q at label hr hk =
      let Y = with_column_closed X id in
      let same : column_label Y k ≡ column_label X k = edited_label X (DropColumn id) k in
      let side : square_side Y ≡ square_side X = edited_side X (DropColumn id) in
      cell_labelled Y r k (row_label X r) (Some q) (subst (λ n. r < n) (sym side) hr) (subst (λ n. k < n) (sym side) hk) refl (same ∙ label)
      ∙ closed_by Y (is_counted X r) r q (closed_off X id q at)

-- ---- the cell of the square of the edited instance, where an edit that isn't refused touches it

module _ {V : Type 0} (free : V) (enter : Cost → V) (objective : Objective) (X : Problem) (is : IsInstance X) (r k : ℕ) (hr : r < square_side X) (hk : k < square_side X) where
  pub touched_cost : (edit : Edit) (row col : ℕ) (cost : Cost) → edit ≡ SetCost row col cost → refusal_of objective X edit ≡ None → Touches X edit r k → square_cell (edited X edit) free enter r k ≡ Some (enter cost)
  touched_cost edit row col cost e passes touched =
      subst (λ it. square_cell (edited X it) free enter r k ≡ Some (enter cost)) (sym e)
      (at (subst (λ it. refusal_of objective X it ≡ None) e passes) (subst (λ it. Touches X it r k) e touched))
    where
      at : refusal_of objective X (SetCost row col cost) ≡ None → Touches X (SetCost row col cost) r k → square_cell (edited X (SetCost row col cost)) free enter r k ≡ Some (enter cost)
      at none at_cell =
          let names = NamesPlaces-passed objective X (SetCost row col cost) none in
          let all = none_applies objective X (SetCost row col cost) none in
          let q = names.1.0 in
          cell_written free enter X row col (Some cost) r k q is at_cell.0 names.1.1 (at_cell.1 ∙ names.1.1)
          (passes_at (is_active X) (row_place_of X row) r at_cell.0 (all 2 NoMemory (omega arith)))
          (passes_at (is_open X) (column_place_of X col) q names.1.1 (all 3 NoMemory (omega arith)))
          hr hk

  pub touched_forbidden : (edit : Edit) (row col : ℕ) → edit ≡ Forbid row col → refusal_of objective X edit ≡ None → Touches X edit r k → square_cell (edited X edit) free enter r k ≡ None
  touched_forbidden edit row col e passes touched =
      subst (λ it. square_cell (edited X it) free enter r k ≡ None) (sym e)
      (at (subst (λ it. refusal_of objective X it ≡ None) e passes) (subst (λ it. Touches X it r k) e touched))
    where
      at : refusal_of objective X (Forbid row col) ≡ None → Touches X (Forbid row col) r k → square_cell (edited X (Forbid row col)) free enter r k ≡ None
      at none at_cell =
          let names = NamesPlaces-passed objective X (Forbid row col) none in
          let all = none_applies objective X (Forbid row col) none in
          let q = names.1.0 in
          cell_written free enter X row col None r k q is at_cell.0 names.1.1 (at_cell.1 ∙ names.1.1)
          (passes_at (is_active X) (row_place_of X row) r at_cell.0 (all 2 NoMemory (omega arith)))
          (passes_at (is_open X) (column_place_of X col) q names.1.1 (all 3 NoMemory (omega arith)))
          hr hk

  pub touched_row : (edit : Edit) (row : ℕ) → edit ≡ DropRow row → Touches X edit r k → square_cell (edited X edit) free enter r k ≡ dropped_cell X.place (column_label X k) free
  touched_row edit row e touched =
      subst (λ it. square_cell (edited X it) free enter r k ≡ dropped_cell X.place (column_label X k) free) (sym e)
      (dropped_row_cell free enter X row r k (column_label X k) (subst (λ it. Touches X it r k) e touched) refl hr hk)

  pub touched_column : (edit : Edit) (col : ℕ) → edit ≡ DropColumn col → refusal_of objective X edit ≡ None → Touches X edit r k → square_cell (edited X edit) free enter r k ≡ closed_cell (is_counted X r) free
  touched_column edit col e passes touched =
      subst (λ it. square_cell (edited X it) free enter r k ≡ closed_cell (is_counted X r) free) (sym e)
      (at (subst (λ it. refusal_of objective X it ≡ None) e passes) (subst (λ it. Touches X it r k) e touched))
    where
      at : refusal_of objective X (DropColumn col) ≡ None → Touches X (DropColumn col) r k → square_cell (edited X (DropColumn col)) free enter r k ≡ closed_cell (is_counted X r) free
      at none at_cell =
          let names = NamesPlaces-passed objective X (DropColumn col) none in
          closed_column_cell free enter X col r k names.0 names.1 (at_cell ∙ names.1) hr hk

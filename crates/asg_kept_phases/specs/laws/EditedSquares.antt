-- The cells of the square that an edit doesn't touch stay.
use Rattle.std.proofs.Common.{◌≡◌, ◌≢◌, ℕ, ◌<◌, ◌≤◌, Bool, true, false, cond, ◌&&◌, eqb, List, length, get_or, map, Option, Some, None, refl, sym, ap, ◌∙◌, ⊎_elim, arith, unwrap_or}
use Rattle.std.specs.Prelude.{AllPairs, nat_lt, position, slice_get, ◌==◌}
use Rattle.std.specs.Option.{option_map, option_map_or}
use Rattle.std.proofs.lemmas.Bool.{cases_Bool, cases_lt, cases_order, cond-false, eqb-true}
use Rattle.std.proofs.lemmas.List.{length-map}
use Rattle.std.proofs.lemmas.List.Quantifiers.{position-Some}
use Rattle.std.proofs.lemmas.Option.{slice_get-get_or, slice_get_past, slice_get-map}
use Rattle.asg_model.specs.declared.edits.Edit.TheVariants.{DropRow, DropColumn}
use Rattle.asg_model.specs.declared.parts.Column.{Column}
use Rattle.asg_model.specs.declared.parts.Cost.{Cost}
use Rattle.asg_model.specs.declared.parts.Place.{Place}
use Rattle.asg_model.specs.declared.parts.Row.{Row}
use Rattle.asg_model.specs.Counts.{is_counted, is_counted_by}
use Rattle.asg_model.specs.HallSet.{row_place_of, column_place_of}
use Rattle.asg_model.specs.Instances.{IsInstance}
use Rattle.asg_model.specs.Live.{cost_at, is_active, is_open}
use Rattle.asg_model.specs.Problem.{Problem, problem_of}
use Rattle.asg_model.specs.Shapes.{square_side}
use Rattle.asg_square.specs.Cells.{square_cell}
use Rattle.asg_cell_tables.specs.LabelledCells.{labelled_cell}
use Rattle.asg_square.specs.Labels.{row_label, column_label}
use Rattle.asg_model.specs.Edits.{dropped, closed, with_cell, place_of, with_cell_of}
use Rattle.asg_model.specs.laws.Rows.{no_row, no_column}
use Rattle.asg_values.specs.laws.EditedShapes.{edited_side}
use Rattle.asg_kept_phases.specs.laws.EditedLabels.{edited_label}
use Rattle.asg_values.specs.laws.WrittenCells.{other_cell}

abbrev Cells : Type 0
Cells = List ((ℕ × ℕ) × Cost)

-- ---- squares

module _ {V : Type 0} (free : V) (enter : Cost → V) where
  -- only live costs differ
  labelled_same : (X : Problem) (cells : Cells) (row column : Option ℕ) → ((r d : ℕ) → row ≡ Some r → column ≡ Some d → cost_at cells r d ≡ cost_at X.cells r d) → labelled_cell (problem_of X.rows X.columns cells X.place) free enter row column ≡ labelled_cell X free enter row column
  labelled_same X cells (Some r) (Some d) same = ap (λ o. option_map enter (cond (is_active X r && is_open X d) o None)) (same r d refl refl)
  labelled_same X cells (Some r) None same = refl
  labelled_same X cells None (Some d) same = refl
  labelled_same X cells None None same = refl

  label_is : (X : Problem) (r s : ℕ) → row_label X r ≡ Some s → s ≡ r
  label_is X r s e = label_by (is_counted X r) r s e
    where
      label_by : (b : Bool) (r s : ℕ) → cond b (Some r) None ≡ Some s → s ≡ r
      label_by true r s e = cc
      label_by false r s e = absurd (let none = e in cc)

  pub untouched_cell : (X : Problem) (row col : ℕ) (cell : Option Cost) (r k : ℕ) → ((p : ℕ) × (row_place_of X row ≡ Some p)) → ((q : ℕ) × (column_place_of X col ≡ Some q)) → ((row_place_of X row ≡ Some r) × (column_label X k ≡ column_place_of X col) → ⊥) → square_cell (with_cell_of X row col cell) free enter r k ≡ square_cell X free enter r k
  untouched_cell X row col cell r k at_row at_column untouched =
      ap (λ c. cond (nat_lt r (square_side X) && nat_lt k (square_side X)) c None)
      (labelled_same X (with_cell X.cells (place_of X row col) cell) (row_label X r) (column_label X k)
      (λ s d is_row is_column.
      other_cell (place_of X row col) s d
      (λ is.
      let row_is : unwrap_or (row_place_of X row) 0 ≡ at_row.0 = ap (λ o. unwrap_or o 0) at_row.1 in
      let column_is : unwrap_or (column_place_of X col) 0 ≡ at_column.0 = ap (λ o. unwrap_or o 0) at_column.1 in
      let p_is : at_row.0 ≡ r = sym row_is ∙ is.0 ∙ label_is X r s is_row in
      let q_is : at_column.0 ≡ d = sym column_is ∙ is.1 in
      untouched (at_row.1 ∙ ap Some p_is, is_column ∙ ap Some (sym q_is) ∙ sym at_column.1))
      X.cells cell))

-- ---- a row that is dropped

-- the item at the place where an id is found has it, and no other has
module _ {T : Type 0} (id : T → ℕ) (xs : List T) (n p : ℕ) (d : T) (differ : AllPairs (λ x y. id x ≢ id y) xs) (found : position (λ x. id x == n) xs ≡ Some p) where
  other_id : (r : ℕ) → r ≢ p → r < length xs → id (get_or xs r d) ≢ n
  other_id r apart within e =
      let at = position-Some (λ x. id x == n) xs p d found in
      let has : id (get_or xs p d) ≡ n = eqb-true (id (get_or xs p d)) n at.1 in
      ⊎_elim
      (λ (same : r ≡ p). apart same)
      (⊎_elim
      (λ (less : r < p). differ r p d less at.0 (e ∙ sym has))
      (λ (more : p < r). differ p r d more within (has ∙ sym e)))
      (cases_order r p)

  -- where a map changes only what has the id, other items stay
  other_stays : (f : T → T) → ((x : T) → id x ≢ n → f x ≡ x) → (r : ℕ) → r ≢ p → slice_get (map f xs) r ≡ slice_get xs r
  other_stays f stays r apart =
      ⊎_elim
      (λ (within : r < length xs).
      slice_get-map f xs r
      ∙ ap (option_map f) (slice_get-get_or xs r d within)
      ∙ ap Some (stays (get_or xs r d) (other_id r apart within))
      ∙ sym (slice_get-get_or xs r d within))
      (λ (past : length xs ≤ r).
      slice_get_past (map f xs) r (let size = length-map xs f in omega (arith, past, size)) ∙ sym (slice_get_past xs r past))
      (cases_lt r (length xs))

dropped_other : (id : ℕ) (row : Row) → row.id ≢ id → dropped id row ≡ row
dropped_other id row other =
    ⊎_elim
    (λ yes. absurd (other (eqb-true row.id id yes)))
    (λ no. cond-false (row.id == id) (record row { active = false }) row no)
    (cases_Bool (row.id == id))

closed_other : (id : ℕ) (column : Column) → column.id ≢ id → closed id column ≡ column
closed_other id column other =
    ⊎_elim
    (λ yes. absurd (other (eqb-true column.id id yes)))
    (λ no. cond-false (column.id == id) (record column { usable = false }) column no)
    (cases_Bool (column.id == id))

counted_same : (place : Place) (a b : Bool) (n m r : ℕ) → a ≡ b → n ≡ m → is_counted_by place a (nat_lt r n) ≡ is_counted_by place b (nat_lt r m)
counted_same place a b n m r e f = λ i. is_counted_by place (e i) (nat_lt r (f i))

module _ {V : Type 0} (free : V) (enter : Cost → V) (X : Problem) (is : IsInstance X) where
  -- the cells of other rows
  pub undropped_cell : (id r k : ℕ) → ((p : ℕ) × (row_place_of X id ≡ Some p)) → (row_place_of X id ≡ Some r → ⊥) → square_cell (problem_of (map (dropped id) X.rows) X.columns X.cells X.place) free enter r k ≡ square_cell X free enter r k
  undropped_cell id r k at untouched =
      let p = at.0 in
      let apart : r ≢ p = λ e. untouched (at.1 ∙ ap Some (sym e)) in
      let rows = map (dropped id) X.rows in
      let Y = problem_of rows X.columns X.cells X.place in
      let size = length-map X.rows (dropped id) in
      let stays = other_stays (λ (row : Row). row.id) X.rows id p no_row is.well_formed.rows_differ at.1 (dropped id) (dropped_other id) r apart in
      let active_same : is_active Y r ≡ is_active X r = ap (λ (o : Option Row). option_map_or (λ row. row.active) o false) stays in
      let label : row_label Y r ≡ row_label X r = ap (λ b. cond b (Some r) None) (counted_same X.place (is_active Y r) (is_active X r) (length rows) (length X.rows) r active_same size) in
      ap (λ n. cond (nat_lt r n && nat_lt k n) (labelled_cell Y free enter (row_label Y r) (column_label X k)) None) (edited_side X (DropRow id))
      ∙ ap (λ o. cond (nat_lt r (square_side X) && nat_lt k (square_side X)) (labelled_cell Y free enter o (column_label X k)) None) label
      ∙ ap (λ c. cond (nat_lt r (square_side X) && nat_lt k (square_side X)) c None) (row_same Y rows refl (row_label X r) (column_label X k) (λ s e. ap (λ q. option_map_or (λ row. row.active) (slice_get rows q) false) (label_is free enter X r s e) ∙ active_same ∙ ap (is_active X) (sym (label_is free enter X r s e))))
    where
      row_same : (Y : Problem) (rows : List Row) → Y ≡ problem_of rows X.columns X.cells X.place → (row column : Option ℕ) → ((s : ℕ) → row ≡ Some s → is_active (problem_of rows X.columns X.cells X.place) s ≡ is_active X s) → labelled_cell (problem_of rows X.columns X.cells X.place) free enter row column ≡ labelled_cell X free enter row column
      row_same Y rows e (Some s) (Some d) same = ap (λ b. option_map enter (cond (b && is_open X d) (cost_at X.cells s d) None)) (same s refl)
      row_same Y rows e (Some s) None same = refl
      row_same Y rows e None (Some d) same = refl
      row_same Y rows e None None same = refl

  -- the cells of other columns
  pub unclosed_cell : (id r k : ℕ) → ((q : ℕ) × (column_place_of X id ≡ Some q)) → (column_label X k ≡ column_place_of X id → ⊥) → square_cell (problem_of X.rows (map (closed id) X.columns) X.cells X.place) free enter r k ≡ square_cell X free enter r k
  unclosed_cell id r k at untouched =
      let columns = map (closed id) X.columns in
      let Y = problem_of X.rows columns X.cells X.place in
      let label : column_label Y k ≡ column_label X k = edited_label X (DropColumn id) k in
      let side : square_side Y ≡ square_side X = edited_side X (DropColumn id) in
      ap (λ n. cond (nat_lt r n && nat_lt k n) (labelled_cell Y free enter (row_label X r) (column_label Y k)) None) side
      ∙ ap (λ o. cond (nat_lt r (square_side X) && nat_lt k (square_side X)) (labelled_cell Y free enter (row_label X r) o) None) label
      ∙ ap (λ c. cond (nat_lt r (square_side X) && nat_lt k (square_side X)) c None)
      (column_same columns (row_label X r) (column_label X k)
      (λ d e.
      ap (λ (o : Option Column). option_map_or (λ column. column.usable) o false)
      (other_stays (λ (column : Column). column.id) X.columns id at.0 no_column is.well_formed.columns_differ at.1 (closed id) (closed_other id) d
      (λ same. untouched (e ∙ ap Some same ∙ sym at.1)))))
    where
      column_same : (columns : List Column) (row column : Option ℕ) → ((d : ℕ) → column ≡ Some d → is_open (problem_of X.rows columns X.cells X.place) d ≡ is_open X d) → labelled_cell (problem_of X.rows columns X.cells X.place) free enter row column ≡ labelled_cell X free enter row column
      column_same columns (Some s) (Some d) same = ap (λ b. option_map enter (cond (is_active X s && b) (cost_at X.cells s d) None)) (same d refl)
      column_same columns (Some s) None same = refl
      column_same columns None (Some d) same = refl
      column_same columns None None same = refl

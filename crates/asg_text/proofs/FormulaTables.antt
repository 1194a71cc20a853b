-- The instance of the formula, as a table.
use Rattle.asg_text.proofs.FormulaCommon.{◌≡◌, ℕ, zero, suc, ◌+◌, ◌*◌, ◌/◌, ◌%◌, ◌^◌, ◌<◌, ◌≤◌, cond, List, [], ◌∷◌, map, length, get_or, ℤ, pos, All, flat_map, sym, refl, ap, ◌∙◌, subst, inr, div-add-mod', arith, length-append, get_or-append-add, All-map, All-nil, div_below, enumerate_from, get_or-le-sum_by, get_or-map-range_with_len, get_or_append_left, length-map-range_with_len, mod_below, range_with_len, same_lists, cost_of_place}
use Rattle.std.specs.List.{filter_map}
use Rattle.asg_model.specs.declared.parts.Column.{Column}
use Rattle.asg_model.specs.declared.parts.Place.{Place}
use Rattle.asg_model.specs.declared.parts.Row.{Row}
use Rattle.asg_model.specs.Instances.{IsInstance, IsWellFormed, IsCostInRange}
use Rattle.asg_model.specs.Problem.{problem_of}
use Rattle.asg_model.specs.Table.{IsTable, IsEntry, table_cell, table_cells}
use Rattle.asg_model.specs.ValueRange.{IsPartInRange}
use Rattle.asg_text.specs.Formula.{row_of, column_of, cell_of, cells_of, generated_problem}
use Rattle.asg_model.specs.declared.parts.Place.TheVariants.{All as PlaceAll}

row_at : (side k : ℕ) (d : Row) → k < side → get_or (map row_of (range_with_len 1 side)) k d ≡ row_of (1 + k)
row_at side k d within = get_or-map-range_with_len row_of 1 side k (1 + k) d within refl

column_at : (side k : ℕ) (d : Column) → k < side → get_or (map column_of (range_with_len 1 side)) k d ≡ column_of (1 + k)
column_at side k d within = get_or-map-range_with_len column_of 1 side k (1 + k) d within refl

-- the rows and columns are those of an instance
pub are_parts : (side : ℕ) → 1 ≤ side → side ≤ 1000 → IsWellFormed (problem_of (map row_of (range_with_len 1 side)) (map column_of (range_with_len 1 side)) [] PlaceAll)
are_parts side some few =
    let rows = length-map-range_with_len row_of 1 side in
    let columns = length-map-range_with_len column_of 1 side in
    record {
      some_active = omega (arith, get_or-le-sum_by (λ (row : Row). cond row.active 1 0) (map row_of (range_with_len 1 side)) 0 (row_of 1) (omega (arith, rows)), ap {B = ℕ} (λ row. cond row.active 1 0) (row_at side 0 (row_of 1) some));
      few_rows = omega (arith, rows);
      few_columns = omega (arith, columns);
      rows_differ = λ i j d before within same.
          absurd (omega (arith, before, ap (λ row. row.id) (sym (row_at side i d (omega (arith, rows)))) ∙ same ∙ ap (λ row. row.id) (row_at side j d (omega (arith, rows)))));
      columns_differ = λ i j d before within same.
          absurd (omega (arith, before, ap (λ column. column.id) (sym (column_at side i d (omega (arith, columns)))) ∙ same ∙ ap (λ column. column.id) (column_at side j d (omega (arith, columns)))));
      capacities = λ c d within. rw (column_at side c d (omega (arith, columns))) (omega arith, omega arith);
      cells_within = All-nil _;
      costs = All-nil (λ cell. IsCostInRange cell.1);
      place_in_range = tt;
    }

-- the costs row by row
abbrev pub costs : ℕ → ℕ → List ℤ
costs seed side = map (λ k. pos (cost_of_place seed side k)) (range_with_len 0 (side * side))

small : (n : ℕ) → IsPartInRange (pos (n % 997))
small n = omega arith

pub are_costs : (seed side : ℕ) → IsTable side side (costs seed side) []
are_costs seed side = record {
  whole = length-map-range_with_len (λ k. pos (cost_of_place seed side k)) 0 (side * side);
  firsts_in_range = All-map IsEntry (λ k. pos (cost_of_place seed side k)) (range_with_len 0 (side * side)) (λ i d within. inr (small _));
  seconds_in_range = All-nil IsPartInRange;
}

-- a table without absent cells has a cell at each place
cells_from : (cost : ℕ → ℕ) (m k n : ℕ) → filter_map (table_cell m []) (enumerate_from k (map (λ k. pos (cost k)) (range_with_len k n))) ≡ map (λ k. ((k / m, k % m), record { a = pos (cost k); b = pos 0 })) (range_with_len k n)
cells_from cost m k zero = refl
cells_from cost m k (suc n) = ap (λ cells. ((k / m, k % m), record { a = pos (cost k); b = pos 0 }) ∷ cells) (cells_from cost m (k + 1) n)

-- what stands in a table of m columns, whose rows count from a on
module _ {A : Type 0} (at : ℕ → ℕ → A) (m : ℕ) where
  abbrev row : ℕ → List A
  row r = map (at r) (range_with_len 0 m)

  length-rows : (a n : ℕ) → length (flat_map row (range_with_len a n)) ≡ n * m
  length-rows a zero = omega arith
  length-rows a (suc n) =
      omega (arith, length-append (row a) (flat_map row (range_with_len (a + 1) n)), length-map-range_with_len (at a) 0 m, length-rows (a + 1) n)

  -- row by row
  get_or-rows : (a n r c : ℕ) (d : A) → r < n → c < m → get_or (flat_map row (range_with_len a n)) (r * m + c) d ≡ at (a + r) c
  get_or-rows a zero r c d row_within within = absurd (omega arith)
  get_or-rows a (suc n) zero c d row_within within =
      let here : a + 0 ≡ a = omega arith in
      let first : 0 * m + c ≡ c = omega arith in
      ap (λ k. get_or (flat_map row (range_with_len a (suc n))) k d) first
      ∙ get_or_append_left (row a) (flat_map row (range_with_len (a + 1) n)) d c (omega (arith, length-map-range_with_len (at a) 0 m))
      ∙ get_or-map-range_with_len (at a) 0 m c c d within (omega arith) ∙ ap (λ r. at r c) (sym here)
  get_or-rows a (suc n) (suc r) c d row_within within =
      let past : suc r * m + c ≡ length (row a) + (r * m + c) = omega (arith, length-map-range_with_len (at a) 0 m) in
      let next : a + 1 + r ≡ a + suc r = omega arith in
      ap (λ k. get_or (flat_map row (range_with_len a (suc n))) k d) past
      ∙ get_or-append-add (row a) (flat_map row (range_with_len (a + 1) n)) (r * m + c) d
      ∙ get_or-rows (a + 1) n r c d (omega arith) within ∙ ap (λ r. at r c) next

some_columns : (n m k : ℕ) → k < n * m → 0 < m
some_columns n zero k below = absurd (omega (arith, below))
some_columns n (suc m) k below = omega arith

-- a table by places is one by rows
by_rows : {A : Type 0} (at : ℕ → ℕ → A) (m n : ℕ) → map (λ k. at (k / m) (k % m)) (range_with_len 0 (n * m)) ≡ flat_map (λ r. map (at r) (range_with_len 0 m)) (range_with_len 0 n)
by_rows {A} at m n = same_lists (map place (range_with_len 0 (n * m))) (flat_map (λ r. map (at r) (range_with_len 0 m)) (range_with_len 0 n)) (count ∙ sym (length-rows at m 0 n)) same
  where
    place : ℕ → A
    place k = at (k / m) (k % m)

    count : length (map place (range_with_len 0 (n * m))) ≡ n * m
    count = length-map-range_with_len place 0 (n * m)

    same : (k : ℕ) (d : A) → k < length (map place (range_with_len 0 (n * m))) → get_or (map place (range_with_len 0 (n * m))) k d ≡ get_or (flat_map (λ r. map (at r) (range_with_len 0 m)) (range_with_len 0 n)) k d
    same k d within =
        let below : k < n * m = omega (arith, count) in
        let some : 0 < m = some_columns n m k below in
        get_or-map-range_with_len place 0 (n * m) k k d below (omega arith)
        ∙ sym (ap (λ k. get_or (flat_map (λ r. map (at r) (range_with_len 0 m)) (range_with_len 0 n)) k d) (sym (div-add-mod' k m)) ∙ get_or-rows at m 0 n (k / m) (k % m) d (div_below k m n some below) (mod_below k m some) ∙ ap (λ r. at r (k % m)) (let none : 0 + k / m ≡ k / m = omega arith in none))

-- the cells of the table are those of the formula
pub cells_are : (seed side : ℕ) → table_cells side (costs seed side) [] ≡ cells_of seed side
unfolding table_cells cells_of
cells_are seed side =
    cells_from (cost_of_place seed side) side 0 (side * side) ∙ by_rows (cell_of seed) side side

-- the table of an instance that is made
module _ (seed side : ℕ) (rows : List Row) (columns : List Column) (firsts seconds : List ℤ) (rows_are : rows ≡ map row_of (range_with_len 1 side)) (columns_are : columns ≡ map column_of (range_with_len 1 side)) (firsts_are : firsts ≡ costs seed side) (none : seconds ≡ []) where
  row_count : length rows ≡ side
  row_count = ap length rows_are ∙ length-map-range_with_len row_of 1 side

  column_count : length columns ≡ side
  column_count = ap length columns_are ∙ length-map-range_with_len column_of 1 side

  pub made_table : IsTable (length rows) (length columns) firsts seconds
  made_table = rw (row_count, column_count, firsts_are, none) (are_costs seed side)

  pub made_problem : problem_of rows columns (table_cells (length columns) firsts seconds) PlaceAll ≡ generated_problem seed side
  made_problem =
      let cells : table_cells (length columns) firsts seconds ≡ cells_of seed side =
      (λ i. table_cells (column_count i) (firsts_are i) (none i)) ∙ cells_are seed side in
      (λ i. problem_of (rows_are i) (columns_are i) (cells i) PlaceAll)

-- the parts of whole tables are instances
abbrev pub TablesAreInstances : Type 0
TablesAreInstances = (rows : List Row) (columns : List Column) (firsts seconds : List ℤ) (place : Place) → IsWellFormed (problem_of rows columns [] place)
    → All (λ row. row.id < 2 ^ 32) rows → All (λ column. column.id < 2 ^ 32) columns → IsTable (length rows) (length columns) firsts seconds
    → IsInstance (problem_of rows columns (table_cells (length columns) firsts seconds) place)

-- so is the instance of the formula
pub generated_is_instance : TablesAreInstances → (seed side : ℕ) → 1 ≤ side → side ≤ 1000 → IsInstance (generated_problem seed side)
generated_is_instance law seed side some few =
    let row_count = length-map-range_with_len row_of 1 side in
    let column_count = length-map-range_with_len column_of 1 side in
    let table = law (map row_of (range_with_len 1 side)) (map column_of (range_with_len 1 side)) (costs seed side) [] PlaceAll
    (are_parts side some few)
    (λ k d within. let id = row_at side k d (omega (arith, row_count)) in omega (arith, ap (λ row. row.id) id, row_count))
    (λ k d within. let id = column_at side k d (omega (arith, column_count)) in omega (arith, ap (λ column. column.id) id, column_count))
    (subst (λ n. IsTable n (length (map column_of (range_with_len 1 side))) (costs seed side) []) (sym row_count) (subst (λ m. IsTable side m (costs seed side) []) (sym column_count) (are_costs seed side))) in
    subst (λ cells. IsInstance (problem_of (map row_of (range_with_len 1 side)) (map column_of (range_with_len 1 side)) cells PlaceAll))
    (ap (λ m. table_cells m (costs seed side) []) column_count ∙ cells_are seed side) table

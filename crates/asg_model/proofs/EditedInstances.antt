-- Edited instances are instances.
use Rattle.asg_model.proofs.Common.{◌≡◌, ℕ, zero, suc, ◌+◌, ◌^◌, ◌<◌, ◌≤◌, Bool, true, false, cond, eqb, ◌≢◌, List, [], ◌∷◌, map, length, get_or, IfSome, OnOk, OnErr, Some, None, Ok, Err, All, sum_by, count_by, Option, Result, AllPairs, sym, refl, ap, ◌∙◌, subst, ⊎_elim, arith, eqb-true, All-cons, All-head, All-map, All-tail, All-weaker, IsStrictlySortedBy, cases_Bool, cond-false, cond-true, get_or-map, is_at, keys_of, length-map, remove_entry, sum_by-cons, cells_in, IsStoreOf, stored_problem, IsStored, active_count, total_capacity, dropped, closed, with_cell, IsCostInRange, IsPlaceInRange, IsInstance, by_places, most_capacity, Problem, problem_of, CellStore, Listed, Listed, Map, Table, Column, Cost, Place, Row}
use Rattle.asg_model.proofs.CellMaps.{All-insert_entry}
use Rattle.asg_model.specs.declared.parts.Place.TheVariants.{All as PlaceAll, Exactly}

abbrev Cells : Type 0
Cells = List ((ℕ × ℕ) × Cost)

-- ---- cells

cond_all : {X : Type 0} (P : X → Type 0) (b : Bool) (xs ys : List X) → All P xs → All P ys → All P (cond b xs ys)
cond_all P true xs ys p q = p
cond_all P false xs ys p q = q

All-remove : {K V : Type 0} (P : K × V → Type 0) (test : K → Bool) (es : List (K × V)) → All P es → All P (remove_entry test es)
All-remove P test [] all = all
All-remove P test (e ∷ es) all =
    let head = All-head P e es all in
    let tail = All-tail P e es all in
    cond_all P (test e.0) es (e ∷ remove_entry test es) tail (All-cons P e (remove_entry test es) head (All-remove P test es tail))

All-with_cell : (A : ℕ × ℕ → Type 0) (B : Cost → Type 0) (cells : Cells) (place : ℕ × ℕ) (cell : Option Cost) → A place → IfSome cell B → All (λ e. A e.0 × B e.1) cells → All (λ e. A e.0 × B e.1) (with_cell cells place cell)
All-with_cell A B cells place None a b all = All-remove (λ e. A e.0 × B e.1) (is_at (by_places place)) cells all
All-with_cell A B cells place (Some cost) a b all = All-insert_entry A B by_places cells place cost a b all

place_kept : (rows : List Row) (columns : List Column) (cells others : Cells) (place : Place) → IsPlaceInRange (problem_of rows columns cells place) place → IsPlaceInRange (problem_of rows columns others place) place
place_kept rows columns cells others PlaceAll is = is
place_kept rows columns cells others (Exactly k) is = is

both : {X : Type 0} (P Q : X → Type 0) (xs : List X) → All P xs → All Q xs → All (λ x. P x × Q x) xs
both P Q xs p q k d h = (p k d h, q k d h)

-- an instance with a cell put
pub IsInstance-with_cell : (X : Problem) (r c : ℕ) (cell : Option Cost) → IsInstance X → r < length X.rows → c < length X.columns → IfSome cell IsCostInRange → IsStrictlySortedBy by_places (keys_of (with_cell X.cells (r, c) cell)) → IsInstance (problem_of X.rows X.columns (with_cell X.cells (r, c) cell) X.place)
IsInstance-with_cell X r c cell is row column range ordered =
    let f = is.well_formed in
    let Within : ℕ × ℕ → Type 0 = λ p. (p.0 < length X.rows) × (p.1 < length X.columns) in
    let all = All-with_cell Within IsCostInRange X.cells (r, c) cell (row, column) range (both (λ e. Within e.0) (λ e. IsCostInRange e.1) X.cells f.cells_within f.costs) in
    record {
      well_formed = record {
        some_active = f.some_active;
        few_rows = f.few_rows;
        few_columns = f.few_columns;
        rows_differ = f.rows_differ;
        columns_differ = f.columns_differ;
        capacities = f.capacities;
        cells_within = λ k d h. (all k d h).0;
        costs = λ k d h. (all k d h).1;
        place_in_range = place_kept X.rows X.columns X.cells (with_cell X.cells (r, c) cell) X.place f.place_in_range;
      };
      row_ids = is.row_ids;
      column_ids = is.column_ids;
      cells_ascend = ordered;
    }

-- ---- rows

dropped_id : (id : ℕ) (row : Row) → (dropped id row).id ≡ row.id
dropped_id id row =
    ⊎_elim
    (λ yes. ap (λ (r : Row). r.id) (cond-true (eqb row.id id) (record row { active = false }) row yes))
    (λ no. ap (λ (r : Row). r.id) (cond-false (eqb row.id id) (record row { active = false }) row no))
    (cases_Bool (eqb row.id id))

-- rows of other ids stay
others_stay : (id : ℕ) (rows : List Row) → All (λ row. row.id ≢ id) rows → map (dropped id) rows ≡ rows
others_stay id [] all = refl
others_stay id (x ∷ xs) all =
    let head = All-head (λ (row : Row). row.id ≢ id) x xs all in
    ⊎_elim
    (λ yes. absurd (head (eqb-true x.id id yes)))
    (λ no. ap (λ (r : Row). r ∷ map (dropped id) xs) (cond-false (eqb x.id id) (record x { active = false }) x no) ∙ ap (λ rest. x ∷ rest) (others_stay id xs (All-tail (λ (row : Row). row.id ≢ id) x xs all)))
    (cases_Bool (eqb x.id id))

abbrev active : List Row → ℕ
active rows = count_by (λ row. row.active) rows

-- at most one fewer row is active
one_fewer : (id : ℕ) (rows : List Row) → AllPairs (λ x y. x.id ≢ y.id) rows → active rows ≤ active (map (dropped id) rows) + 1
one_fewer id [] differ = omega arith
one_fewer id (x ∷ xs) differ =
    let before = sum_by-cons (λ (row : Row). cond row.active 1 0) x xs in
    let after = sum_by-cons (λ (row : Row). cond row.active 1 0) (dropped id x) (map (dropped id) xs) in
    ⊎_elim
    (λ yes.
    let same = eqb-true x.id id yes in
    let stay = others_stay id xs (λ k d h e. differ 0 (suc k) d (omega arith) (omega (arith, h)) (same ∙ sym e)) in
    let few : cond x.active 1 0 ≤ 1 = at_most x.active in
    omega (arith, before, after, ap active stay, few))
    (λ no.
    let head : ◌≡◌ {A = ℕ} (cond (dropped id x).active 1 0) (cond x.active 1 0) = ap (λ (r : Row). cond r.active 1 0) (cond-false (eqb x.id id) (record x { active = false }) x no) in
    let rest = one_fewer id xs (λ i j d h k. differ (suc i) (suc j) d (omega (arith, h)) (omega (arith, k))) in
    omega (arith, before, after, head, rest))
    (cases_Bool (eqb x.id id))
  where
    at_most : (b : Bool) → cond b 1 0 ≤ 1
    at_most true = omega arith
    at_most false = omega arith

pairs_kept : (id : ℕ) (rows : List Row) → AllPairs (λ x y. x.id ≢ y.id) rows → AllPairs (λ x y. x.id ≢ y.id) (map (dropped id) rows)
pairs_kept id rows differ i j d h k e =
    let size = length-map rows (dropped id) in
    let last : j < length rows = omega (arith, size, k) in
    let first : i < length rows = omega (arith, h, last) in
    differ i j d h last
    (sym (dropped_id id (get_or rows i d)) ∙ ap (λ (r : Row). r.id) (sym (get_or-map (dropped id) rows i d d first))
    ∙ e
    ∙ ap (λ (r : Row). r.id) (get_or-map (dropped id) rows j d d last) ∙ dropped_id id (get_or rows j d))

rows_place : (rows others : List Row) (columns : List Column) (cells : Cells) (place : Place) → length others ≡ length rows → IsPlaceInRange (problem_of rows columns cells place) place → IsPlaceInRange (problem_of others columns cells place) place
rows_place rows others columns cells PlaceAll e is = is
rows_place rows others columns cells (Exactly k) e is = (is.0, subst (λ n. k ≤ n) (sym e) is.1, is.2)

-- an instance with a row dropped, unless it is the last active one
pub IsInstance-dropped : (X : Problem) (id : ℕ) → IsInstance X → active_count X ≢ 1 → IsInstance (problem_of (map (dropped id) X.rows) X.columns X.cells X.place)
IsInstance-dropped X id is more =
    let f = is.well_formed in
    let size = length-map X.rows (dropped id) in
    record {
      well_formed = record {
        some_active = let fewer = one_fewer id X.rows f.rows_differ in let some = f.some_active in omega (arith, fewer, some, two_or_more (active_count X) f.some_active more);
        few_rows = omega (arith, size, f.few_rows);
        few_columns = f.few_columns;
        rows_differ = pairs_kept id X.rows f.rows_differ;
        columns_differ = f.columns_differ;
        capacities = f.capacities;
        cells_within = λ k d h. let w = f.cells_within k d h in (omega (arith, size, w.0), w.1);
        costs = f.costs;
        place_in_range = rows_place X.rows (map (dropped id) X.rows) X.columns X.cells X.place size f.place_in_range;
      };
      row_ids = All-map (λ (row : Row). row.id < 2 ^ 32) (dropped id) X.rows (All-weaker (λ (row : Row). row.id < 2 ^ 32) (λ (row : Row). (dropped id row).id < 2 ^ 32) (λ row h. subst (λ n. n < 2 ^ 32) (sym (dropped_id id row)) h) X.rows is.row_ids);
      column_ids = is.column_ids;
      cells_ascend = is.cells_ascend;
    }
  where
    two_or_more : (n : ℕ) → 1 ≤ n → n ≢ 1 → 2 ≤ n
    two_or_more zero h k = absurd (omega (arith, h))
    two_or_more (suc zero) h k = absurd (k refl)
    two_or_more (suc (suc n)) h k = omega arith

-- ---- what an instance keeps

store_rows : (rows others : List Row) (columns : ℕ) (store : CellStore) → length others ≡ length rows → IsStoreOf (length rows) columns store → IsStoreOf (length others) columns store
store_rows rows others columns (Map map) e is = tt
store_rows rows others columns (Listed cells) e is = tt
store_rows rows others columns (Table firsts seconds) e is = subst (λ n. IsStoreOf n columns (Table firsts seconds)) (sym e) is

pub IsStored-dropped : (rows others : List Row) (columns : List Column) (store : CellStore) (place : Place) (id : ℕ) → IsStored rows columns store place → active rows ≢ 1 → others ≡ map (dropped id) rows → IsStored others columns store place
IsStored-dropped rows others columns store place id is more e =
    subst (λ (list : List Row). IsStored list columns store place) (sym e)
    (record {
      instance = IsInstance-dropped (stored_problem rows columns store place) id is.instance more;
      whole = store_rows rows (map (dropped id) rows) (length columns) store (length-map rows (dropped id)) is.whole;
    })

closed_id : (id : ℕ) (column : Column) → ((closed id column).id ≡ column.id) × ((closed id column).cap ≡ column.cap)
closed_id id column =
    ⊎_elim
    (λ yes. let e = cond-true (eqb column.id id) (record column { usable = false }) column yes in (ap (λ (c : Column). c.id) e, ap (λ (c : Column). c.cap) e))
    (λ no. let e = cond-false (eqb column.id id) (record column { usable = false }) column no in (ap (λ (c : Column). c.id) e, ap (λ (c : Column). c.cap) e))
    (cases_Bool (eqb column.id id))

closed_pairs : (id : ℕ) (columns : List Column) → AllPairs (λ x y. x.id ≢ y.id) columns → AllPairs (λ x y. x.id ≢ y.id) (map (closed id) columns)
closed_pairs id columns differ i j d h k e =
    let size = length-map columns (closed id) in
    let last : j < length columns = omega (arith, size, k) in
    let first : i < length columns = omega (arith, h, last) in
    differ i j d h last
    (sym (closed_id id (get_or columns i d)).0 ∙ ap (λ (r : Column). r.id) (sym (get_or-map (closed id) columns i d d first))
    ∙ e
    ∙ ap (λ (r : Column). r.id) (get_or-map (closed id) columns j d d last) ∙ (closed_id id (get_or columns j d)).0)

closed_total : (id : ℕ) (columns : List Column) → sum_by (λ column. column.cap) (map (closed id) columns) ≡ sum_by (λ column. column.cap) columns
closed_total id [] = refl
closed_total id (x ∷ xs) =
    sum_by-cons (λ (column : Column). column.cap) (closed id x) (map (closed id) xs)
    ∙ (λ i. (closed_id id x).1 i + closed_total id xs i)
    ∙ sym (sum_by-cons (λ (column : Column). column.cap) x xs)

columns_place : (rows : List Row) (columns others : List Column) (cells : Cells) (place : Place) → total_capacity (problem_of rows others cells place) ≡ total_capacity (problem_of rows columns cells place) → IsPlaceInRange (problem_of rows columns cells place) place → IsPlaceInRange (problem_of rows others cells place) place
columns_place rows columns others cells PlaceAll e is = is
columns_place rows columns others cells (Exactly k) e is = (is.0, is.1, subst (λ n. k ≤ n) (sym e) is.2)

pub IsInstance-closed : (X : Problem) (id : ℕ) → IsInstance X → IsInstance (problem_of X.rows (map (closed id) X.columns) X.cells X.place)
IsInstance-closed X id is =
    let f = is.well_formed in
    let size = length-map X.columns (closed id) in
    let Cap : Column → Type 0 = λ column. (1 ≤ column.cap) × (column.cap ≤ most_capacity) in
    record {
      well_formed = record {
        some_active = f.some_active;
        few_rows = f.few_rows;
        few_columns = omega (arith, size, f.few_columns);
        rows_differ = f.rows_differ;
        columns_differ = closed_pairs id X.columns f.columns_differ;
        capacities = All-map Cap (closed id) X.columns (All-weaker Cap (λ (column : Column). Cap (closed id column)) (λ column h. subst (λ n. (1 ≤ n) × (n ≤ most_capacity)) (sym (closed_id id column).1) h) X.columns f.capacities);
        cells_within = λ k d h. let w = f.cells_within k d h in (w.0, omega (arith, size, w.1));
        costs = f.costs;
        place_in_range = columns_place X.rows X.columns (map (closed id) X.columns) X.cells X.place (closed_total id X.columns) f.place_in_range;
      };
      row_ids = is.row_ids;
      column_ids = All-map (λ (column : Column). column.id < 2 ^ 32) (closed id) X.columns (All-weaker (λ (column : Column). column.id < 2 ^ 32) (λ (column : Column). (closed id column).id < 2 ^ 32) (λ column h. subst (λ n. n < 2 ^ 32) (sym (closed_id id column).0) h) X.columns is.column_ids);
      cells_ascend = is.cells_ascend;
    }

-- the cells don't depend on what the columns are, only on how many there are
store_columns : (rows : ℕ) (columns others : List Column) (store : CellStore) → length others ≡ length columns → IsStoreOf rows (length columns) store → IsStoreOf rows (length others) store
store_columns rows columns others store e is = subst (λ n. IsStoreOf rows n store) (sym e) is

pub IsStored-closed : (rows : List Row) (columns others : List Column) (store : CellStore) (place : Place) (id : ℕ) → IsStored rows columns store place → others ≡ map (closed id) columns → IsStored rows others store place
IsStored-closed rows columns others store place id is e =
    let size = length-map columns (closed id) in
    subst (λ (list : List Column). IsStored rows list store place) (sym e)
    (record {
      instance =
          subst (λ n. IsInstance (problem_of rows (map (closed id) columns) (cells_in n store) place)) (sym size)
          (IsInstance-closed (stored_problem rows columns store place) id is.instance);
      whole = store_columns (length rows) columns (map (closed id) columns) store size is.whole;
    })

IsStored-put-at : {E : Type 0} (rows : List Row) (columns : List Column) (store after : CellStore) (place : Place) (r c : ℕ) (cell : Option Cost) (ok : Result (Unit {0}) E) → IsStored rows columns store place → r < length rows → c < length columns → IfSome cell IsCostInRange
    → OnOk ok (cells_in (length columns) after ≡ with_cell (cells_in (length columns) store) (r, c) cell)
    → OnOk ok (IsStrictlySortedBy by_places (keys_of (cells_in (length columns) after)))
    → OnErr ok (cells_in (length columns) after ≡ cells_in (length columns) store)
    → IsStoreOf (length rows) (length columns) after → IsStored rows columns after place
IsStored-put-at rows columns store after place r c cell (Ok x) is row column range put ordered kept whole = record {
  instance =
      subst (λ (cells : Cells). IsInstance (problem_of rows columns cells place)) (sym put)
      (IsInstance-with_cell (stored_problem rows columns store place) r c cell is.instance row column range (subst (λ (cells : Cells). IsStrictlySortedBy by_places (keys_of cells)) put ordered));
  whole = whole;
}
IsStored-put-at rows columns store after place r c cell (Err e) is row column range put ordered kept whole = record {
  instance = subst (λ (cells : Cells). IsInstance (problem_of rows columns cells place)) (sym kept) is.instance;
  whole = whole;
}

pub IsStored-put : {E : Type 0} (rows : List Row) (columns : List Column) (store after : CellStore) (place : Place) (r c n m : ℕ) (cell : Option Cost) (ok : Result (Unit {0}) E) → n ≡ length rows → m ≡ length columns → IsStored rows columns store place → r < n → c < m → IfSome cell IsCostInRange
    → OnOk ok (cells_in m after ≡ with_cell (cells_in m store) (r, c) cell)
    → OnOk ok (IsStrictlySortedBy by_places (keys_of (cells_in m after)))
    → OnErr ok (cells_in m after ≡ cells_in m store)
    → IsStoreOf n m after → IsStored rows columns after place
IsStored-put rows columns store after place r c n m cell ok rows_are columns_are is row column range put ordered kept whole =
    IsStored-put-at rows columns store after place r c cell ok is
    (subst (λ k. r < k) rows_are row) (subst (λ k. c < k) columns_are column) range
    (subst (λ k. OnOk ok (cells_in k after ≡ with_cell (cells_in k store) (r, c) cell)) columns_are put)
    (subst (λ k. OnOk ok (IsStrictlySortedBy by_places (keys_of (cells_in k after)))) columns_are ordered)
    (subst (λ k. OnErr ok (cells_in k after ≡ cells_in k store)) columns_are kept)
    (subst (λ k. IsStoreOf k (length columns) after) rows_are (subst (λ k. IsStoreOf n k after) columns_are whole))

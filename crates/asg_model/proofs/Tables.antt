-- The cells of a table: what stands at a place, and that they are cells of an instance.
use Rattle.asg_model.proofs.Common.{◌≡◌, ℕ, zero, suc, ◌+◌, ◌*◌, ◌/◌, ◌%◌, ◌<◌, ◌≤◌, Bool, true, false, cond, ◌&&◌, eqb, ◌≢◌, List, [], ◌∷◌, length, get_or, ℤ, pos, IfSome, slice_get, Some, None, All, Option, Vec, option_map, filter_map, option_and_then, nat_cmp, int_eq, Less, Equal, Global, sym, refl, ap, ◌∙◌, subst, inl, inr, ⊎_elim, div-add-mod', div-mul-le_self, arith, eq-eqb, eqb-true, All-cons, All-head, All-nil, All-tail, AllByRecursion, Decides-int_eq, and_parts, cases_Bool, cases_lt, cases_order, cond-false, cond-true, cons_option, div-mul-add, div_below, enumerate_from, false≢true, get_or_past, keys_of, le-div, mod-mul-add, mod_below, nat_cmp_is, ordering_then, cells_in, stored_problem, IsStoreOf, IsCostInRange, IsPlaceInRange, IsWellFormed, by_places, cost_at, Problem, problem_of, absent, table_cost, table_cell, IsEntry, IsTable, CellStore, Table, Column, Cost, Place, Row}
use Rattle.std.proofs.Common.{mul-le-mul_right}
use Rattle.std.specs.List.Sorted.{IsStrictlySortedBy}
use Rattle.asg_model.specs.ValueRange.{IsPartInRange}
use Rattle.asg_model.specs.Table.{table_cells}
use Rattle.asg_model.specs.declared.parts.Place.TheVariants.{All as PlaceAll, Exactly}

-- ---- what stands at a place

-- two indices of one row and one column are one index
same_index : (n i k : ℕ) → i / n ≡ k / n → i % n ≡ k % n → i ≡ k
same_index n i k rows columns = omega (arith, div-add-mod' i n, div-add-mod' k n, ap (λ q. q * n) rows)

module _ (n : ℕ) (seconds : List ℤ) where
  -- the cells from an index on
  abbrev cells_from : ℕ → List ℤ → List ((ℕ × ℕ) × Cost)
  cells_from start firsts = filter_map (table_cell n seconds) (enumerate_from start firsts)

  front_here : (k : ℕ) (o : Option Cost) (rest : List ((ℕ × ℕ) × Cost)) → cost_at rest (k / n) (k % n) ≡ None → cost_at (cons_option (option_map (λ cost. ((k / n, k % n), cost)) o) rest) (k / n) (k % n) ≡ o
  front_here k None rest none = none
  front_here k (Some cost) rest none =
      cond-true (eqb (k / n) (k / n) && eqb (k % n) (k % n)) (Some cost) (cost_at rest (k / n) (k % n)) (rw (eq-eqb (k / n) (k / n) refl, eq-eqb (k % n) (k % n) refl) refl)

  front_other : (start k : ℕ) (o : Option Cost) (rest : List ((ℕ × ℕ) × Cost)) → start ≢ k → cost_at (cons_option (option_map (λ cost. ((start / n, start % n), cost)) o) rest) (k / n) (k % n) ≡ cost_at rest (k / n) (k % n)
  front_other start k None rest other = refl
  front_other start k (Some cost) rest other =
      ⊎_elim
      (λ yes. let parts = and_parts _ _ yes in absurd (other (same_index n start k (eqb-true _ _ parts.0) (eqb-true _ _ parts.1))))
      (λ no. cond-false (eqb (start / n) (k / n) && eqb (start % n) (k % n)) (Some cost) (cost_at rest (k / n) (k % n)) no)
      (cases_Bool (eqb (start / n) (k / n) && eqb (start % n) (k % n)))

  none_before : (start k : ℕ) (firsts : List ℤ) → k < start → cost_at (cells_from start firsts) (k / n) (k % n) ≡ None
  none_before start k [] before = refl
  none_before start k (a ∷ firsts) before =
      front_other start k (table_cost seconds start a) (cells_from (start + 1) firsts) (λ e. omega (arith, e, before))
      ∙ none_before (start + 1) k firsts (omega arith)

  cost_from : (start k j : ℕ) (firsts : List ℤ) → start + k ≡ j → cost_at (cells_from start firsts) (j / n) (j % n) ≡ option_and_then (table_cost seconds j) (slice_get firsts k)
  cost_from start k j [] e = refl
  cost_from start zero j (a ∷ firsts) e =
      let same : start ≡ j = omega (arith, e) in
      subst (λ i. cost_at (cells_from start (a ∷ firsts)) (i / n) (i % n) ≡ table_cost seconds i a) same
      (front_here start (table_cost seconds start a) (cells_from (start + 1) firsts) (none_before (start + 1) start firsts (omega arith)))
  cost_from start (suc k) j (a ∷ firsts) e =
      front_other start j (table_cost seconds start a) (cells_from (start + 1) firsts) (λ same. omega (arith, e, same))
      ∙ cost_from (start + 1) k j firsts (omega (arith, e))

-- the cost at a place of a table is what stands at the index of the place
pub cost_at-table : (n : ℕ) (firsts seconds : List ℤ) (r c : ℕ) → c < n → cost_at (table_cells n firsts seconds) r c ≡ option_and_then (table_cost seconds (r * n + c)) (slice_get firsts (r * n + c))
unfolding table_cells
cost_at-table n firsts seconds r c within =
    let k = r * n + c in
    (λ i. cost_at (cells_from n seconds 0 firsts) (sym (div-mul-add r n c within) i) (sym (mod-mul-add r n c within) i))
    ∙ cost_from n seconds 0 k k firsts (omega arith)

-- past the last column no cell stands
past_front : (n start r c : ℕ) (o : Option Cost) (rest : List ((ℕ × ℕ) × Cost)) → 0 < n → n ≤ c → cost_at rest r c ≡ None → cost_at (cons_option (option_map (λ cost. ((start / n, start % n), cost)) o) rest) r c ≡ None
past_front n start r c None rest some past none = none
past_front n start r c (Some cost) rest some past none =
    ⊎_elim
    (λ yes.
    let same = eqb-true (start % n) c (and_parts (eqb (start / n) r) (eqb (start % n) c) yes).1 in
    let below = mod_below start n some in
    absurd (omega (arith, same, below, past)))
    (λ no. cond-false (eqb (start / n) r && eqb (start % n) c) (Some cost) (cost_at rest r c) no ∙ none)
    (cases_Bool (eqb (start / n) r && eqb (start % n) c))

past_from : (n : ℕ) (seconds : List ℤ) (start r c : ℕ) (firsts : List ℤ) → 0 < n → n ≤ c → cost_at (cells_from n seconds start firsts) r c ≡ None
past_from n seconds start r c [] some past = refl
past_from n seconds start r c (a ∷ firsts) some past =
    past_front n start r c (table_cost seconds start a) (cells_from n seconds (start + 1) firsts) some past (past_from n seconds (start + 1) r c firsts some past)

-- where there are entries there are columns
some_columns : (rows n left : ℕ) → suc left ≡ rows * n → 0 < n
some_columns rows zero left e = absurd (omega (arith, e))
some_columns rows (suc n) left e = omega arith

pub cost_at-past : (rows n : ℕ) (firsts seconds : List ℤ) (r c : ℕ) → length firsts ≡ rows * n → n ≤ c → cost_at (table_cells n firsts seconds) r c ≡ None
unfolding table_cells
cost_at-past rows n [] seconds r c whole past = refl
cost_at-past rows n (a ∷ firsts) seconds r c whole past = past_from n seconds 0 r c (a ∷ firsts) (some_columns rows n (length firsts) whole) past

-- ---- the order of the cells

rows_rise : (n i k : ℕ) → 0 < n → i < k → i / n ≤ k / n
rows_rise n i k some before = le-div (i / n) k n some (omega (arith, div-mul-le_self i n))

-- an earlier index is an earlier place
earlier_place : (n i k : ℕ) → 0 < n → i < k → by_places (i / n, i % n) (k / n, k % n) ≡ Less
earlier_place n i k some before =
    ⊎_elim
    (λ same.
    let columns : i % n < k % n = omega (arith, div-add-mod' i n, div-add-mod' k n, ap (λ q. q * n) same) in
    ap (λ o. ordering_then o (nat_cmp (i % n) (k % n))) (sym (nat_cmp_is (i / n) (k / n) Equal same)) ∙ sym (nat_cmp_is (i % n) (k % n) Less columns))
    (⊎_elim
    (λ less. ap (λ o. ordering_then o (nat_cmp (i % n) (k % n))) (sym (nat_cmp_is (i / n) (k / n) Less less)))
    (λ more. absurd (omega (arith, rows_rise n i k some before))))
    (cases_order (i / n) (k / n))

keys_front : (P : ℕ × ℕ → Type 0) (place : ℕ × ℕ) (o : Option Cost) (rest : List ((ℕ × ℕ) × Cost)) → P place → AllByRecursion P (keys_of rest) → AllByRecursion P (keys_of (cons_option (option_map (λ cost. (place, cost)) o) rest))
keys_front P place None rest here all = all
keys_front P place (Some cost) rest here all = (here, all)

pub later_keys : (n : ℕ) (seconds : List ℤ) (i start : ℕ) (firsts : List ℤ) → 0 < n → i < start → AllByRecursion (λ y. by_places (i / n, i % n) y ≡ Less) (keys_of (cells_from n seconds start firsts))
later_keys n seconds i start [] some before = tt
later_keys n seconds i start (a ∷ firsts) some before =
    keys_front (λ y. by_places (i / n, i % n) y ≡ Less) (start / n, start % n) (table_cost seconds start a) (cells_from n seconds (start + 1) firsts)
    (earlier_place n i start some before) (later_keys n seconds i (start + 1) firsts some (omega arith))

sorted_front : (place : ℕ × ℕ) (o : Option Cost) (rest : List ((ℕ × ℕ) × Cost)) → AllByRecursion (λ y. by_places place y ≡ Less) (keys_of rest) → IsStrictlySortedBy by_places (keys_of rest) → IsStrictlySortedBy by_places (keys_of (cons_option (option_map (λ cost. (place, cost)) o) rest))
unfolding IsStrictlySortedBy
sorted_front place None rest all sorted = sorted
sorted_front place (Some cost) rest all sorted = (all, sorted)

sorted_from : (n : ℕ) (seconds : List ℤ) (start : ℕ) (firsts : List ℤ) → 0 < n → IsStrictlySortedBy by_places (keys_of (cells_from n seconds start firsts))
unfolding IsStrictlySortedBy
sorted_from n seconds start [] some = tt
sorted_from n seconds start (a ∷ firsts) some =
    sorted_front (start / n, start % n) (table_cost seconds start a) (cells_from n seconds (start + 1) firsts)
    (later_keys n seconds start (start + 1) firsts some (omega arith)) (sorted_from n seconds (start + 1) firsts some)

-- the cells of a table ascend
pub cells_ascend : (rows n : ℕ) (firsts seconds : List ℤ) → length firsts ≡ rows * n → IsStrictlySortedBy by_places (keys_of (table_cells n firsts seconds))
unfolding table_cells IsStrictlySortedBy
cells_ascend rows n [] seconds whole = tt
cells_ascend rows n (a ∷ firsts) seconds whole = sorted_from n seconds 0 (a ∷ firsts) (some_columns rows n (length firsts) whole)

-- ---- what holds of the cells

All-front : {X : Type 0} (P : X → Type 0) (o : Option X) (rest : List X) → IfSome o P → All P rest → All P (cons_option o rest)
All-front P None rest here all = all
All-front P (Some x) rest here all = All-cons P x rest here all

all_from : (n top : ℕ) (seconds : List ℤ) (P : (ℕ × ℕ) × Cost → Type 0) → ((k : ℕ) (a : ℤ) → k < top → IsEntry a → IfSome (table_cell n seconds (k, a)) P) → (start : ℕ) (firsts : List ℤ) → start + length firsts ≤ top → All IsEntry firsts → All P (cells_from n seconds start firsts)
all_from n top seconds P each start [] within all = All-nil P
all_from n top seconds P each start (a ∷ firsts) within all =
    All-front P (table_cell n seconds (start, a)) (cells_from n seconds (start + 1) firsts)
    (each start a (omega arith) (All-head IsEntry a firsts all))
    (all_from n top seconds P each (start + 1) firsts (omega arith) (All-tail IsEntry a firsts all))

-- where there is an index there are columns
pub columns_below : (rows n k : ℕ) → k < rows * n → 0 < n
columns_below rows zero k below = absurd (omega (arith, below))
columns_below rows (suc n) k below = omega arith

-- what holds of a cell, by its place
placed : (P : (ℕ × ℕ) × Cost → Type 0) (place : ℕ × ℕ) (o : Option Cost) → IfSome o (λ cost. P (place, cost)) → IfSome (option_map (λ cost. (place, cost)) o) P
placed P place None h = tt
placed P place (Some cost) h = h

anything : {X : Type 0} (P : X → Type 0) (o : Option X) → ((x : X) → P x) → IfSome o P
anything P None h = tt
anything P (Some x) h = h x

second_in_range : (seconds : List ℤ) (k : ℕ) → All IsPartInRange seconds → IsPartInRange (get_or seconds k (pos 0))
second_in_range seconds k all =
    ⊎_elim
    (λ (within : k < length seconds). all k (pos 0) within)
    (λ (past : length seconds ≤ k). subst IsPartInRange (sym (get_or_past seconds k (pos 0) past)) (omega arith))
    (cases_lt k (length seconds))

entry_in_range : (a : ℤ) → int_eq a absent ≡ false → IsEntry a → IsPartInRange a
entry_in_range a other (inl none) = absurd (false≢true (sym other ∙ (Decides-int_eq a absent).1 none))
entry_in_range a other (inr near) = near

cost_in_range : (seconds : List ℤ) (k : ℕ) (a : ℤ) (b : Bool) → int_eq a absent ≡ b → IsEntry a → All IsPartInRange seconds → IfSome (cond b None (Some (record { a = a; b = get_or seconds k (pos 0) }))) IsCostInRange
cost_in_range seconds k a true e is all = tt
cost_in_range seconds k a false e is all = record { a_in_range = entry_in_range a e is; b_in_range = second_in_range seconds k all }

module _ (rows n : ℕ) (firsts seconds : List ℤ) (table : IsTable rows n firsts seconds) where
  cells_within : All (λ cell. (cell.0.0 < rows) × (cell.0.1 < n)) (table_cells n firsts seconds)
  unfolding table_cells
  cells_within =
      all_from n (rows * n) seconds (λ cell. (cell.0.0 < rows) × (cell.0.1 < n))
      (λ k a below is.
      let some = columns_below rows n k below in
      placed (λ cell. (cell.0.0 < rows) × (cell.0.1 < n)) (k / n, k % n) (table_cost seconds k a)
      (anything (λ _. (k / n < rows) × (k % n < n)) (table_cost seconds k a) (λ _. (div_below k n rows some below, mod_below k n some))))
      0 firsts (omega (arith, table.whole)) table.firsts_in_range

  costs_in_range : All (λ cell. IsCostInRange cell.1) (table_cells n firsts seconds)
  unfolding table_cells
  costs_in_range =
      all_from n (rows * n) seconds (λ cell. IsCostInRange cell.1)
      (λ k a below is.
      placed (λ cell. IsCostInRange cell.1) (k / n, k % n) (table_cost seconds k a)
      (cost_in_range seconds k a (int_eq a absent) refl is table.seconds_in_range))
      0 firsts (omega (arith, table.whole)) table.firsts_in_range

place_in_range : (rows : List Row) (columns : List Column) (cells : List ((ℕ × ℕ) × Cost)) (place : Place) → IsPlaceInRange (problem_of rows columns [] place) place → IsPlaceInRange (problem_of rows columns cells place) place
place_in_range rows columns cells PlaceAll is = is
place_in_range rows columns cells (Exactly k) is = is

-- parts that are well-formed with no cell are so with cells of their rows and columns
pub IsWellFormed-cells : (rows : List Row) (columns : List Column) (cells : List ((ℕ × ℕ) × Cost)) (place : Place) → IsWellFormed (problem_of rows columns [] place) → All (λ cell. (cell.0.0 < length rows) × (cell.0.1 < length columns)) cells → All (λ cell. IsCostInRange cell.1) cells → IsWellFormed (problem_of rows columns cells place)
IsWellFormed-cells rows columns cells place parts within costs = record {
  some_active = parts.some_active;
  few_rows = parts.few_rows;
  few_columns = parts.few_columns;
  rows_differ = parts.rows_differ;
  columns_differ = parts.columns_differ;
  capacities = parts.capacities;
  cells_within = within;
  costs = costs;
  place_in_range = place_in_range rows columns cells place parts.place_in_range;
}

pub IsWellFormed-table : (rows : List Row) (columns : List Column) (firsts seconds : List ℤ) (place : Place) → IsWellFormed (problem_of rows columns [] place) → IsTable (length rows) (length columns) firsts seconds → IsWellFormed (problem_of rows columns (table_cells (length columns) firsts seconds) place)
IsWellFormed-table rows columns firsts seconds place parts table =
    IsWellFormed-cells rows columns (table_cells (length columns) firsts seconds) place parts
    (cells_within (length rows) (length columns) firsts seconds table)
    (costs_in_range (length rows) (length columns) firsts seconds table)

pub row_end : (r rows n : ℕ) → r < rows → r * n + n ≤ rows * n
row_end r rows n there = omega (arith, mul-le-mul_right n there)

-- ---- an instance that keeps a table
module _ (rows : List Row) (columns : List Column) (store : CellStore) (place : Place) (X : Problem) (view : stored_problem rows columns store place ≡ X) (firsts seconds : Vec ℤ Global) (is : store ≡ Table firsts seconds) where
  pub cells_are : X.cells ≡ table_cells (length X.columns) firsts.items seconds.items
  cells_are =
      sym (ap (λ (Y : Problem). Y.cells) view)
      ∙ ap (λ (s : CellStore). cells_in (length columns) s) is
      ∙ ap (λ (Y : Problem). table_cells (length Y.columns) firsts.items seconds.items) view

  pub table_is : IsStoreOf (length rows) (length columns) store → IsTable (length X.rows) (length X.columns) firsts.items seconds.items
  table_is whole =
      subst (λ (Y : Problem). IsTable (length Y.rows) (length Y.columns) firsts.items seconds.items) view
      (subst (λ (s : CellStore). IsStoreOf (length rows) (length columns) s) is whole)

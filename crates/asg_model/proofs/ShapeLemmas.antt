-- Instances with another place rule and other capacities, and copies.
use Rattle.asg_model.proofs.Common.{◌≡◌, ℕ, ◌+◌, ◌*◌, ◌^◌, ◌<◌, ◌≤◌, Bool, true, false, cond, ◌&&◌, ltb, ◌≢◌, ◌⊎◌, List, [], ◌∷◌, map, length, get_or, set, nat_le, All, sum_by, AllPairs, sym, refl, ap, ◌∙◌, subst, inl, inr, ⊎_elim, arith, get_or-set_other, get_or-set_same, le-ltb, lt-ltb, leb-false, leb-true, All-map, cases_order, false≢true, get_or-map, get_or_default, length-map, same_lists, sum_by-cons, cells_in, IsStoreOf, stored_problem, IsStored, IsCopyOf, total_capacity, IsPlaceInRange, IsInstance, most_capacity, Problem, problem_of, with_capacity, shaped, IsPlaceOutOfRange, is_range_of, CellStore, Column, Place, Row}
use Rattle.asg_model.specs.declared.parts.Place.TheVariants.{All as PlaceAll, Exactly}

-- so many columns of one capacity
total_of_each : (each : ℕ) (columns : List Column) → sum_by (λ column. column.cap) (map (with_capacity each) columns) ≡ length columns * each
total_of_each each [] = omega arith
total_of_each each (x ∷ xs) =
    let rest = total_of_each each xs in
    let first = sum_by-cons (λ (column : Column). column.cap) (with_capacity each x) (map (with_capacity each) xs) in
    grind (arith, rest, first)

pub total_shaped : (X : Problem) (place : Place) (each : ℕ) → total_capacity (shaped X place each) ≡ length X.columns * each
total_shaped X place each = total_of_each each X.columns

three : (a b c : Bool) → (a && b && c) ≡ true → (a ≡ true) × (b ≡ true) × (c ≡ true)
three true true true e = (refl, refl, refl)
three true true false e = absurd (false≢true e)
three true false c e = absurd (false≢true e)
three false b c e = absurd (false≢true e)

three_false : (a b c : Bool) → (a && b && c) ≡ false → (a ≡ false) ⊎ ((b ≡ false) ⊎ (c ≡ false))
three_false true true c e = inr (inr e)
three_false true false c e = inr (inl refl)
three_false false b c e = inl refl

above : (m n : ℕ) → nat_le m n ≡ false → n < m
above m n e = leb-false m n e

-- the test says whether the rule is in range
pub range_in : (X : Problem) (place : Place) (rows capacity : ℕ) → rows ≡ length X.rows → capacity ≡ total_capacity X → is_range_of place rows capacity ≡ true → IsPlaceInRange X place
range_in X PlaceAll rows capacity e f h = tt
range_in X (Exactly k) rows capacity e f h =
    let parts = three (nat_le 1 k) (nat_le k rows) (nat_le k capacity) h in (
      leb-true 1 k parts.0,
      subst (λ n. k ≤ n) e (leb-true k rows parts.1),
      subst (λ n. k ≤ n) f (leb-true k capacity parts.2),
    )

pub range_out : (X : Problem) (place : Place) (rows capacity : ℕ) → rows ≡ length X.rows → capacity ≡ total_capacity X → is_range_of place rows capacity ≡ false → IsPlaceOutOfRange X place
range_out X PlaceAll rows capacity e f h = absurd (false≢true (sym h))
range_out X (Exactly k) rows capacity e f h =
    ⊎_elim
    (λ (none : nat_le 1 k ≡ false). let less = above 1 k none in inl (omega (arith, less)))
    (⊎_elim
    (λ (many : nat_le k rows ≡ false). inr (inl (subst (λ n. n < k) e (above k rows many))))
    (λ (much : nat_le k capacity ≡ false). inr (inr (subst (λ n. n < k) f (above k capacity much)))))
    (three_false (nat_le 1 k) (nat_le k rows) (nat_le k capacity) h)

pairs_mapped : (each : ℕ) (xs : List Column) → AllPairs (λ x y. x.id ≢ y.id) xs → AllPairs (λ x y. x.id ≢ y.id) (map (with_capacity each) xs)
pairs_mapped each xs differ i j d h k e =
    let size = length-map xs (with_capacity each) in
    let last : j < length xs = omega (arith, size, k) in
    let first : i < length xs = omega arith in
    differ i j d h last
    (sym (ap (λ (x : Column). x.id) (get_or-map (with_capacity each) xs i d d first))
    ∙ e
    ∙ ap (λ (x : Column). x.id) (get_or-map (with_capacity each) xs j d d last))

-- an instance of another shape is one
pub shaped_is_instance : (X : Problem) (place : Place) (each : ℕ) → IsInstance X → 1 ≤ each → each ≤ most_capacity → IsPlaceInRange (shaped X place each) place → IsInstance (shaped X place each)
shaped_is_instance X place each i some few range =
    let size = length-map X.columns (with_capacity each) in
    let w = i.well_formed in
    record {
      well_formed = record {
        some_active = w.some_active;
        few_rows = w.few_rows;
        few_columns = omega (arith, size, w.few_columns);
        rows_differ = w.rows_differ;
        columns_differ = pairs_mapped each X.columns w.columns_differ;
        capacities = All-map (λ column. (1 ≤ column.cap) × (column.cap ≤ most_capacity)) (with_capacity each) X.columns (λ k d h. (some, few));
        cells_within = subst (λ n. All (λ cell. (cell.0.0 < length X.rows) × (cell.0.1 < n)) X.cells) (sym size) w.cells_within;
        costs = w.costs;
        place_in_range = range;
      };
      row_ids = i.row_ids;
      column_ids = All-map (λ column. column.id < 2 ^ 32) (with_capacity each) X.columns i.column_ids;
      cells_ascend = i.cells_ascend;
    }

-- the same, stored
pub shaped_is_stored : (rows : List Row) (columns new : List Column) (store : CellStore) (place next : Place) (each : ℕ) → IsStored rows columns store place → 1 ≤ each → each ≤ most_capacity → is_range_of next (length rows) (length columns * each) ≡ true → new ≡ map (with_capacity each) columns → IsStored rows new store next
shaped_is_stored rows columns new store place next each s some few range is =
    let X = stored_problem rows columns store place in
    let size = length-map columns (with_capacity each) in
    let inside = range_in (shaped X next each) next (length rows) (length columns * each) refl (sym (total_shaped X next each)) range in
    subst (λ xs. IsStored rows xs store next) (sym is)
    (record {
      instance = subst (λ n. IsInstance (problem_of rows (map (with_capacity each) columns) (cells_in n store) next)) (sym size) (shaped_is_instance X next each s.instance some few inside);
      whole = subst (λ n. IsStoreOf (length rows) n store) (sym size) s.whole;
    })

-- what is seen of it
pub shaped_view : (rows : List Row) (columns new : List Column) (store : CellStore) (place next : Place) (each : ℕ) → new ≡ map (with_capacity each) columns → stored_problem rows new store next ≡ shaped (stored_problem rows columns store place) next each
shaped_view rows columns new store place next each is =
    ap (λ xs. stored_problem rows xs store next) is
    ∙ ap (λ n. problem_of rows (map (with_capacity each) columns) (cells_in n store) next) (length-map columns (with_capacity each))

-- ---- columns that get their capacity one after the other

abbrev pub CapacitiesTo : List Column → List Column → ℕ → ℕ → Type 0
CapacitiesTo old now each i = (k : ℕ) (d : Column) → k < length old → get_or now k d ≡ cond (ltb k i) (with_capacity each (get_or old k d)) (get_or old k d)

pub capacities_more : (old now : List Column) (each i : ℕ) (x : Column) → length now ≡ length old → i < length now → x ≡ get_or now i x → CapacitiesTo old now each i → CapacitiesTo old (set now i (with_capacity each x)) each (i + 1)
capacities_more old now each i x size below read done k d h =
    ⊎_elim
    (λ (here : k ≡ i).
    let within : i < length old = omega (arith, size, below) in
    let is : x ≡ get_or old i d =
    read ∙ done i x within ∙ ap (λ b. cond b (with_capacity each (get_or old i x)) (get_or old i x)) (le-ltb i i (omega arith)) ∙ get_or_default old i x d within in
    ap (λ n. get_or (set now i (with_capacity each x)) n d) here
    ∙ get_or-set_same now i (with_capacity each x) d below
    ∙ ap (with_capacity each) is
    ∙ sym (ap (λ b. cond b (with_capacity each (get_or old i d)) (get_or old i d)) (lt-ltb i (i + 1) (omega arith)))
    ∙ ap (λ n. cond (ltb n (i + 1)) (with_capacity each (get_or old n d)) (get_or old n d)) (sym here))
    (⊎_elim
    (λ (less : k < i).
    get_or-set_other now i k (with_capacity each x) d (λ e. omega (arith, e, less))
    ∙ done k d h
    ∙ ap (λ b. cond b (with_capacity each (get_or old k d)) (get_or old k d)) (lt-ltb k i less ∙ sym (lt-ltb k (i + 1) (omega arith))))
    (λ (more : i < k).
    get_or-set_other now i k (with_capacity each x) d (λ e. omega (arith, e, more))
    ∙ done k d h
    ∙ ap (λ b. cond b (with_capacity each (get_or old k d)) (get_or old k d)) (le-ltb k i (omega arith) ∙ sym (le-ltb k (i + 1) (omega arith)))))
    (cases_order k i)

pub capacities_done : (old now : List Column) (each i : ℕ) → length now ≡ length old → length old ≤ i → CapacitiesTo old now each i → now ≡ map (with_capacity each) old
capacities_done old now each i size whole done =
    let mapped = length-map old (with_capacity each) in
    same_lists now (map (with_capacity each) old) (omega (arith, size, mapped))
    (λ k d h.
    let within : k < length old = omega (arith, size, h) in
    done k d within
    ∙ ap (λ b. cond b (with_capacity each (get_or old k d)) (get_or old k d)) (lt-ltb k i (omega arith))
    ∙ sym (get_or-map (with_capacity each) old k d d within))

-- ---- copies

pub copy_is_stored : (rows copied_rows : List Row) (columns copied_columns : List Column) (store copied : CellStore) (place : Place) → copied_rows ≡ rows → copied_columns ≡ columns → IsCopyOf store copied → IsStored rows columns store place → IsStored copied_rows copied_columns copied place
copy_is_stored rows copied_rows columns copied_columns store copied place e f copy s =
    subst (λ xs. IsStored xs copied_columns copied place) (sym e)
    (subst (λ xs. IsStored rows xs copied place) (sym f)
    (record {
      instance = subst (λ cells. IsInstance (problem_of rows columns cells place)) (sym (copy.cells (length columns))) s.instance;
      whole = copy.whole (length rows) (length columns) s.whole;
    }))

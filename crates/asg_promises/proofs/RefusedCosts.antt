-- The first refused cell of an instance: it is the one that a search row by row tells, and there is
-- none exactly where the objective refuses no live cost.
use Rattle.asg_promises.proofs.Common.{◌≡◌, ℕ, zero, suc, ◌+◌, ◌<◌, ◌≤◌, Bool, true, false, cond, ◌&&◌, List, [], ◌∷◌, length, is_some, IfSome, slice_get, Some, None, Option, option_map, option_and_then, sym, refl, ap, ◌∙◌, subst, ⊎_elim, arith, cases_lt, false_from_ne_true, option_map_or, range_with_len, Problem, IsFirstRefused, PassesNegative, is_refused, is_refused_at, Objective, first_refused, ids_at, refused_column, refused_row}
use Rattle.std.specs.List.{find}
use Rattle.asg_model.specs.declared.parts.Column.{Column}
use Rattle.asg_model.specs.declared.parts.Cost.{Cost}
use Rattle.asg_model.specs.declared.parts.Row.{Row}
use Rattle.asg_model.specs.Live.{cost_at, live_at}

-- where no number passes, none is found
find_none : (test : ℕ → Bool) (a n : ℕ) → ((k : ℕ) → test k ≡ false) → find test (range_with_len a n) ≡ None
find_none test a zero fails = refl
find_none test a (suc n) fails = ap (λ b. cond b (Some a) (find test (range_with_len (a + 1) n))) (fails a) ∙ find_none test (a + 1) n fails

-- where none is found, none of the range passes
none_passes : (test : ℕ → Bool) (a n k : ℕ) → find test (range_with_len a n) ≡ None → a ≤ k → k < a + n → test k ≡ false
none_passes test a zero k none from below = absurd (omega (arith, from, below))
none_passes test a (suc n) k none from below = by_first (test a) refl none (λ rest later. none_passes test (a + 1) n k rest (omega (arith, later)) (omega (arith, below)))
  where
    by_first : (b : Bool) → test a ≡ b → cond b (Some a) (find test (range_with_len (a + 1) n)) ≡ None → (find test (range_with_len (a + 1) n) ≡ None → a < k → test k ≡ false) → test k ≡ false
    by_first true is none more = cc
    by_first false is none more =
        ⊎_elim
        (λ (later : a < k). more none later)
        (λ (here : k ≤ a). let same : a ≡ k = omega (arith, here, from) in subst (λ j. test j ≡ false) same is)
        (cases_lt a k)

-- the first number that passes is found
find_first : (test : ℕ → Bool) (a n k : ℕ) → a ≤ k → k < a + n → test k ≡ true → ((j : ℕ) → j < k → test j ≡ false) → find test (range_with_len a n) ≡ Some k
find_first test a zero k from below passes fails = absurd (omega (arith, from, below))
find_first test a (suc n) k from below passes fails =
    ⊎_elim
    (λ (later : a < k). ap (λ b. cond b (Some a) rest) (fails a later) ∙ find_first test (a + 1) n k (omega (arith, later)) (omega (arith, below)) passes fails)
    (λ (here : k ≤ a).
    let same : a ≡ k = omega (arith, here, from) in
    ap (λ b. cond b (Some a) rest) (subst (λ j. test j ≡ true) (sym same) passes) ∙ ap (λ j. Some j) same)
    (cases_lt a k)
  where
    rest : Option ℕ
    rest = find test (range_with_len (a + 1) n)

-- what is found passes
found_passes : (test : ℕ → Bool) (xs : List ℕ) (k : ℕ) → find test xs ≡ Some k → test k ≡ true
found_passes test [] k found = cc
found_passes test (x ∷ xs) k found = by_first (test x) refl found (found_passes test xs k)
  where
    by_first : (b : Bool) → test x ≡ b → cond b (Some x) (find test xs) ≡ Some k → (find test xs ≡ Some k → test k ≡ true) → test k ≡ true
    by_first true is found more = let same : x ≡ k = cc in subst (λ j. test j ≡ true) same is
    by_first false is found more = more found

-- an element at a place is within the list
within_list : {A : Type 0} (xs : List A) (i : ℕ) (P : A → Bool) → option_map_or P (slice_get xs i) false ≡ true → i < length xs
within_list [] i P holds = cc
within_list (x ∷ xs) zero P holds = omega arith
within_list (x ∷ xs) (suc i) P holds = omega (arith, within_list xs i P holds)

module _ (objective : Objective) (X : Problem) where
  -- a refused cell has a row and a column
  refused_within : (r c : ℕ) → is_refused_at objective X r c ≡ true → (r < length X.rows) × (c < length X.columns)
  refused_within r c refused = by_parts (option_map_or (λ row. row.active) (slice_get X.rows r) false) (option_map_or (λ column. column.usable) (slice_get X.columns c) false) refl refl refused
    where
      by_parts : (active usable : Bool) → option_map_or (λ row. row.active) (slice_get X.rows r) false ≡ active → option_map_or (λ column. column.usable) (slice_get X.columns c) false ≡ usable
          → option_map_or (is_refused objective) (cond (active && usable) (cost_at X.cells r c) None) false ≡ true → (r < length X.rows) × (c < length X.columns)
      by_parts true true is_active is_usable refused = (within_list X.rows r (λ row. row.active) is_active, within_list X.columns c (λ column. column.usable) is_usable)
      by_parts true false is_active is_usable refused = cc
      by_parts false usable is_active is_usable refused = cc

  -- a row without such a column has none
  column_none : (r : ℕ) → is_some (refused_column objective X r) ≡ false → refused_column objective X r ≡ None
  column_none r none = by (refused_column objective X r) none
    where
      by : (found : Option ℕ) → is_some found ≡ false → found ≡ None
      by None is = refl
      by (Some c) is = cc

  -- the ids of the first refused cell, by its row
  abbrev first_refused_by : Option ℕ → Option (ℕ × ℕ)
  first_refused_by found = option_and_then (λ r. option_map (ids_at X r) (refused_column objective X r)) found

  -- where no row is found the objective refuses no live cost
  passes_rows : refused_row objective X ≡ None → PassesNegative objective X
  passes_rows none r c = by_cost (live_at X r c) (false_from_ne_true (is_refused_at objective X r c) refuses_none)
    where
      refuses_none : is_refused_at objective X r c ≡ true → ⊥
      refuses_none refused =
          let within = refused_within r c refused in
          let row_none = none_passes (λ k. is_some (refused_column objective X k)) 0 (length X.rows) r none (omega arith) (omega (arith, within.0)) in
          let passes = none_passes (is_refused_at objective X r) 0 (length X.columns) c (column_none r row_none) (omega arith) (omega (arith, within.1)) in
          cc

      by_cost : (found : Option Cost) → option_map_or (is_refused objective) found false ≡ false → IfSome found (λ cost. is_refused objective cost ≡ false)
      by_cost None passes = tt
      by_cost (Some cost) passes = passes

  -- nor where no cell is
  pub passes_none : first_refused objective X ≡ None → PassesNegative objective X
  passes_none none = by_row (refused_row objective X) refl none
    where
      by_column : (r : ℕ) (found : Option ℕ) → is_some found ≡ true → option_map (ids_at X r) found ≡ None → PassesNegative objective X
      by_column r None some none = cc
      by_column r (Some c) some none = cc

      by_row : (found : Option ℕ) → refused_row objective X ≡ found → first_refused_by found ≡ None → PassesNegative objective X
      by_row None is none = passes_rows is
      by_row (Some r) is none =
          by_column r (refused_column objective X r) (found_passes (λ k. is_some (refused_column objective X k)) (range_with_len 0 (length X.rows)) r is) none

  -- and where it refuses none, no cell is found
  pub first_none : PassesNegative objective X → first_refused objective X ≡ None
  first_none passes = ap first_refused_by no_row
    where
      by_cost : (found : Option Cost) → IfSome found (λ cost. is_refused objective cost ≡ false) → option_map_or (is_refused objective) found false ≡ false
      by_cost None passes = refl
      by_cost (Some cost) passes = passes

      no_column : (r : ℕ) → refused_column objective X r ≡ None
      no_column r = find_none (is_refused_at objective X r) 0 (length X.columns) (λ c. by_cost (live_at X r c) (passes r c))

      no_row : refused_row objective X ≡ None
      no_row = find_none (λ r. is_some (refused_column objective X r)) 0 (length X.rows) (λ r. ap is_some (no_column r))

  -- the first refused cell is found
  pub first_found : (ids : ℕ × ℕ) → IsFirstRefused objective X ids → first_refused objective X ≡ Some ids
  first_found ids first = ap first_refused_by row_found ∙ ap (option_map (ids_at X first.row)) column_found ∙ (λ i. Some (row_id i, column_id i))
    where
      within : (first.row < length X.rows) × (first.in_row.column < length X.columns)
      within = refused_within first.row first.in_row.column first.in_row.refused

      column_found : refused_column objective X first.row ≡ Some first.in_row.column
      column_found = find_first (is_refused_at objective X first.row) 0 (length X.columns) first.in_row.column (omega arith) (omega (arith, within.1)) first.in_row.refused first.in_row.none_left

      row_found : refused_row objective X ≡ Some first.row
      row_found =
          find_first (λ r. is_some (refused_column objective X r)) 0 (length X.rows) first.row (omega arith) (omega (arith, within.0)) (ap is_some column_found)
          (λ r above. ap is_some (find_none (is_refused_at objective X r) 0 (length X.columns) (λ c. first.none_above r c above)))

      row_id : option_map_or (λ row. row.id) (slice_get X.rows first.row) 0 ≡ ids.0
      row_id = by (slice_get X.rows first.row) first.has_id
        where
          by : (found : Option Row) → option_map (λ row. row.id) found ≡ Some ids.0 → option_map_or (λ row. row.id) found 0 ≡ ids.0
          by None is = cc
          by (Some row) is = cc

      column_id : option_map_or (λ column. column.id) (slice_get X.columns first.in_row.column) 0 ≡ ids.1
      column_id = by (slice_get X.columns first.in_row.column) first.in_row.has_id
        where
          by : (found : Option Column) → option_map (λ column. column.id) found ≡ Some ids.1 → option_map_or (λ column. column.id) found 0 ≡ ids.1
          by None is = cc
          by (Some column) is = cc

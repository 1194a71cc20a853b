-- The cells of a table in which one cell was changed.
use Rattle.asg_model.proofs.Common.{◌≡◌, ℕ, zero, suc, ◌+◌, ◌*◌, ◌/◌, ◌%◌, ◌<◌, ◌≤◌, Bool, true, false, cond, ◌≢◌, List, [], ◌∷◌, length, get_or, set, ℤ, pos, IfSome, Some, None, Option, option_map, filter_map, nat_cmp, int_eq, is_eq, Less, Equal, Greater, sym, refl, ap, ◌∙◌, ⊎_elim, div-add-mod', div-mul-le_self, arith, AllByRecursion, cases_order, cons_option, enumerate_from, insert_entry, is_at, keys_of, le-div, match_ordering, nat_cmp_is, ordering_then, remove_entry, slot_of, PutsInTable, with_cell, IsCostInRange, by_places, absent, table_cost, table_cell, Cost}
use Rattle.asg_model.specs.Table.{table_cells}
use Rattle.asg_model.proofs.Tables.{later_keys}

abbrev Cells : Type 0
Cells = List ((ℕ × ℕ) × Cost)

abbrev Place : Type 0
Place = ℕ × ℕ

-- a place that stands before all keys isn't removed
remove_later : (place : Place) (cells : Cells) → AllByRecursion (λ key. by_places place key ≡ Less) (keys_of cells) → remove_entry (is_at (by_places place)) cells ≡ cells
remove_later place [] later = refl
remove_later place (e ∷ es) later =
    ap (λ o. cond (is_eq o) es (e ∷ remove_entry (is_at (by_places place)) es)) later.0
    ∙ ap (λ rest. e ∷ rest) (remove_later place es later.1)

-- it is inserted at the front
insert_later : (place : Place) (cost : Cost) (cells : Cells) → AllByRecursion (λ key. by_places place key ≡ Less) (keys_of cells) → insert_entry by_places cells place cost ≡ (place, cost) ∷ cells
insert_later place cost [] later = refl
insert_later place cost (e ∷ es) later =
    ap (λ o. match_ordering o ((place, cost) ∷ e ∷ es) ((e.0, cost) ∷ es) (e ∷ insert_entry by_places es place cost)) later.0

same_place : (place : Place) → by_places place place ≡ Equal
same_place place =
    ap (λ o. ordering_then o (nat_cmp place.1 place.1)) (sym (nat_cmp_is place.0 place.0 Equal refl)) ∙ sym (nat_cmp_is place.1 place.1 Equal refl)

-- the cell of a place, if it has one, before other cells
abbrev front : Place → Option Cost → Cells → Cells
front place o rest = cons_option (option_map (λ cost. (place, cost)) o) rest

front_put : (place : Place) (o cell : Option Cost) (rest : Cells) → AllByRecursion (λ key. by_places place key ≡ Less) (keys_of rest) → with_cell (front place o rest) place cell ≡ front place cell rest
front_put place None None rest later = remove_later place rest later
front_put place (Some w) None rest later =
    ap (λ o. cond (is_eq o) rest ((place, w) ∷ remove_entry (is_at (by_places place)) rest)) (same_place place)
front_put place None (Some v) rest later = insert_later place v rest later
front_put place (Some w) (Some v) rest later =
    ap (λ o. match_ordering o ((place, v) ∷ (place, w) ∷ rest) ((place, v) ∷ rest) ((place, w) ∷ insert_entry by_places rest place v)) (same_place place)

past_put : (first place : Place) (o cell : Option Cost) (rest : Cells) → by_places place first ≡ Greater → with_cell (front first o rest) place cell ≡ front first o (with_cell rest place cell)
past_put first place None cell rest greater = refl
past_put first place (Some w) None rest greater =
    ap (λ o. cond (is_eq o) rest ((first, w) ∷ remove_entry (is_at (by_places place)) rest)) greater
past_put first place (Some w) (Some v) rest greater =
    ap (λ o. match_ordering o ((place, v) ∷ (first, w) ∷ rest) ((first, v) ∷ rest) ((first, w) ∷ insert_entry by_places rest place v)) greater

-- a later index is a later place
later_place : (n i k : ℕ) → 0 < n → i < k → by_places (k / n, k % n) (i / n, i % n) ≡ Greater
later_place n i k some before =
    ⊎_elim
    (λ same.
    let columns : i % n < k % n = omega (arith, div-add-mod' i n, div-add-mod' k n, ap (λ q. q * n) same) in
    ap (λ o. ordering_then o (nat_cmp (k % n) (i % n))) (sym (nat_cmp_is (k / n) (i / n) Equal (sym same))) ∙ sym (nat_cmp_is (k % n) (i % n) Greater columns))
    (⊎_elim
    (λ less. ap (λ o. ordering_then o (nat_cmp (k % n) (i % n))) (sym (nat_cmp_is (k / n) (i / n) Greater less)))
    (λ more. let rise : i / n ≤ k / n = le-div (i / n) k n some (omega (arith, div-mul-le_self i n, before)) in absurd (omega (arith, rise, more))))
    (cases_order (i / n) (k / n))

module _ (n k : ℕ) (some : 0 < n) (seconds after : List ℤ) (a : ℤ) (cell : Option Cost) (others : (i : ℕ) → i ≢ k → get_or after i (pos 0) ≡ get_or seconds i (pos 0)) (new : table_cost after k a ≡ cell) where
  abbrev from : List ℤ → ℕ → List ℤ → Cells
  from list start firsts = filter_map (table_cell n list) (enumerate_from start firsts)

  same_cost : (i : ℕ) (b : ℤ) → i ≢ k → table_cost after i b ≡ table_cost seconds i b
  same_cost i b other = ap (λ (s : ℤ). cond (int_eq b absent) None (Some (record { a = b; b = s }))) (others i other)

  from_same : (start : ℕ) (firsts : List ℤ) → k < start → from after start firsts ≡ from seconds start firsts
  from_same start [] past = refl
  from_same start (b ∷ firsts) past =
      ap (λ o. front (start / n, start % n) o (from after (start + 1) firsts)) (same_cost start b (λ e. omega (arith, e, past)))
      ∙ ap (front (start / n, start % n) (table_cost seconds start b)) (from_same (start + 1) firsts (omega arith))

  put_from : (start j : ℕ) (firsts : List ℤ) → start + j ≡ k → j < length firsts → from after start (set firsts j a) ≡ with_cell (from seconds start firsts) (k / n, k % n) cell
  put_from start j [] e below = absurd (omega (arith, below))
  put_from start zero (b ∷ firsts) e below =
      let same : k ≡ start = omega (arith, e) in
      let later = later_keys n seconds k (start + 1) firsts some (omega (arith, same)) in
      ap (front (start / n, start % n) (table_cost after start a)) (from_same (start + 1) firsts (omega (arith, same)))
      ∙ ap (λ i. front (i / n, i % n) (table_cost after i a) (from seconds (start + 1) firsts)) (sym same)
      ∙ ap (λ o. front (k / n, k % n) o (from seconds (start + 1) firsts)) new
      ∙ sym (front_put (k / n, k % n) (table_cost seconds start b) cell (from seconds (start + 1) firsts) later)
      ∙ ap (λ i. with_cell (front (i / n, i % n) (table_cost seconds start b) (from seconds (start + 1) firsts)) (k / n, k % n) cell) same
  put_from start (suc j) (b ∷ firsts) e below =
      ap (λ o. front (start / n, start % n) o (from after (start + 1) (set firsts j a))) (same_cost start b (λ same. omega (arith, e, same)))
      ∙ ap (front (start / n, start % n) (table_cost seconds start b)) (put_from (start + 1) j firsts (omega (arith, e)) (omega (arith, below)))
      ∙ sym (past_put (start / n, start % n) (k / n, k % n) (table_cost seconds start b) cell (from seconds (start + 1) firsts) (later_place n start k some (omega (arith, e))))

-- what stands at the index afterwards
slot_cost : (cell : Option Cost) (k : ℕ) (seconds : List ℤ) → IfSome cell IsCostInRange → IfSome cell (λ cost. get_or seconds k (pos 0) ≡ cost.b) → table_cost seconds k (slot_of cell) ≡ cell
slot_cost None k seconds range second = refl
slot_cost (Some cost) k seconds range second = slot_cost_in cost k seconds (int_eq cost.a absent) refl range second
  where
    slot_cost_in : (cost : Cost) (k : ℕ) (seconds : List ℤ) (b : Bool) → int_eq cost.a absent ≡ b → IsCostInRange cost → get_or seconds k (pos 0) ≡ cost.b → cond b None (Some (record { a = cost.a; b = get_or seconds k (pos 0) })) ≡ Some cost
    slot_cost_in cost k seconds true e range second = absurd (grind (arith, e, range.a_in_range))
    slot_cost_in cost k seconds false e range second = ap (λ (s : ℤ). Some (record { a = cost.a; b = s })) second

-- the cells of the table are those with the cell put
pub table_cells-put : (n k : ℕ) (cell : Option Cost) (firsts seconds firsts_after seconds_after : List ℤ) → 0 < n → k < length firsts → IfSome cell IsCostInRange → PutsInTable k cell firsts seconds firsts_after seconds_after → table_cells n firsts_after seconds_after ≡ with_cell (table_cells n firsts seconds) (k / n, k % n) cell
unfolding table_cells
table_cells-put n k cell firsts seconds firsts_after seconds_after some below range puts =
    ap (λ list. filter_map (table_cell n seconds_after) (enumerate_from 0 list)) puts.firsts_are
    ∙ put_from n k some seconds seconds_after (slot_of cell) cell puts.others (slot_cost cell k seconds_after range puts.second) 0 k firsts (omega arith) below

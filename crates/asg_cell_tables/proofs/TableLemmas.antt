-- The cells of a table that stands as values and bits.
use Rattle.asg_cell_tables.proofs.Common.{◌≡◌, ℕ, ◌+◌, ◌-◌, ◌*◌, ◌/◌, ◌%◌, ◌<◌, ◌≤◌, Bool, true, false, cond, eqb, ◌≢◌, List, length, get_or, take, drop, set, is_some, IsSome, slice_get, Some, None, Option, sym, refl, ap, ◌∙◌, subst, ⊎_elim, div-add-mod', arith, length-drop, length-set, length-take, get_or-drop, get_or-set_other, get_or-take, get_or-set_same, le-ltb, lt-ltb, Decides-eqb, cases_Bool, cases_lt, div-mul-add, false≢true, get_or-map-range_with_len, get_or_past, length-map-range_with_len, mod-mul-add, mul-add-lt, same_lists, slice_get-get_or, slice_get_cases, slice_get_past, slice_get_read, BitTable, has_bit, IsBitTable, PutsBit, AreWordsOf, place_hit, place_missed, CellTable, entry_at, IsCellTable, stored_cell, stored_cells, IsStored, AreValuesOf, AreAllValuesOf}
use Rattle.std.specs.Option.{unwrap_or}

-- ---- reads of lists

get_part : {A : Type 0} (xs : List A) (m n i : ℕ) → i < n → m + n ≤ length xs → slice_get (take n (drop m xs)) i ≡ slice_get xs (m + i)
get_part xs m n i h fits =
    let inside = length-take n (drop m xs) in
    let rest = length-drop m xs in
    ⊎_elim
    (λ found.
    slice_get_read (take n (drop m xs)) (length (take n (drop m xs))) i found.0 refl (omega (arith, inside, rest))
    (sym (get_or-take n (drop m xs) i found.0 h ∙ get_or-drop m xs i found.0 ∙ found.3))
    ∙ sym found.2)
    (λ past. absurd (omega (arith, past.0)))
    (slice_get_cases xs (m + i)).1

pub get_set_other : {A : Type 0} (xs : List A) (p k : ℕ) (y : A) → k ≢ p → slice_get (set xs p y) k ≡ slice_get xs k
get_set_other xs p k y apart =
    ⊎_elim
    (λ found. slice_get_read (set xs p y) (length xs) k found.0 (sym (length-set xs p y)) found.1 (sym (get_or-set_other xs p k y found.0 apart ∙ found.3)) ∙ sym found.2)
    (λ past. slice_get_past (set xs p y) k (omega (arith, length-set xs p y, past.0)) ∙ sym past.1)
    (slice_get_cases xs k).1

pub get_set_same : {A : Type 0} (xs : List A) (p : ℕ) (y : A) → p < length xs → slice_get (set xs p y) p ≡ Some y
get_set_same xs p y h = slice_get-get_or (set xs p y) p y (omega (arith, h, length-set xs p y)) ∙ ap Some (get_or-set_same xs p y y h)

-- ---- the cells

module _ {V : Type 0} (side : ℕ) (values : List V) (present : BitTable) (s : IsStored side values present) where
  abbrev cells : List (Option V)
  cells = stored_cells side values present

  pub is_table : IsCellTable (record { side = side; cells = stored_cells side values present })
  is_table = record {
    few = s.few;
    count = length-map-range_with_len (stored_cell side values present) 0 (side * side);
  }

  pub entry_is : (r c : ℕ) → r < side → c < side → entry_at side (stored_cells side values present) r c ≡ cond (has_bit present r c) (slice_get values (r * side + c)) None
  entry_is r c h k =
      ap (λ b. cond b (get_or cells (r * side + c) None) None) (lt-ltb c side k)
      ∙ get_or-map-range_with_len (stored_cell side values present) 0 (side * side) (r * side + c) (r * side + c) None (mul-add-lt r side c side h k) (omega arith)
      ∙ ap (λ i. cond (has_bit present i ((r * side + c) % side)) (slice_get values (r * side + c)) None) (div-mul-add r side c k)
      ∙ ap (λ i. cond (has_bit present r i) (slice_get values (r * side + c)) None) (mod-mul-add r side c k)

  pub entry_there : (r c : ℕ) (x : V) → r < side → c < side → has_bit present r c ≡ true → slice_get values (r * side + c) ≡ Some x → Some x ≡ entry_at side (stored_cells side values present) r c
  entry_there r c x h k has read = sym (entry_is r c h k ∙ ap (λ b. cond b (slice_get values (r * side + c)) None) has ∙ read)

  pub entry_absent : (r c : ℕ) → r < side → c < side → has_bit present r c ≡ false → None ≡ entry_at side (stored_cells side values present) r c
  entry_absent r c h k lacks = sym (entry_is r c h k ∙ ap (λ b. cond b (slice_get values (r * side + c)) None) lacks)

  pub past_side : (r c : ℕ) → side ≤ c → entry_at side (stored_cells side values present) r c ≡ None
  past_side r c h = ap (λ b. cond b (get_or cells (r * side + c) None) None) (le-ltb c side h)

  column_of_entry : (r c : ℕ) → IsSome (entry_at side (stored_cells side values present) r c) → c < side
  column_of_entry r c some =
      ⊎_elim (λ (below : c < side). below)
      (λ (past : side ≤ c). absurd (false≢true (sym (ap is_some (past_side r c past)) ∙ some)))
      (cases_lt c side)

  pub place_below : (r c : ℕ) → r < side → c < side → r * side + c < length values
  place_below r c h k = let below = mul-add-lt r side c side h k in omega (arith, below, s.count)

  present_is : (r c : ℕ) → r < side → c < side → is_some (entry_at side (stored_cells side values present) r c) ≡ has_bit present r c
  present_is r c h k = ap is_some (entry_is r c h k) ∙ some_if (has_bit present r c)
    where
      read : is_some (slice_get values (r * side + c)) ≡ true
      read =
          ⊎_elim (λ found. ap is_some found.2) (λ past. let below = place_below r c h k in absurd (omega (arith, below, past.0)))
          (slice_get_cases values (r * side + c)).1

      some_if : (b : Bool) → is_some (cond b (slice_get values (r * side + c)) None) ≡ b
      some_if true = read
      some_if false = refl

  -- ---- a row

  pub row_fits : (r : ℕ) → r < side → r * side + side ≤ length values
  row_fits r h = let last = mul-add-lt r side (side - 1) side h (omega arith) in omega (arith, last, s.count)

  pub values_of_row : (r : ℕ) (xs : List V) → r < side → xs ≡ values → AreValuesOf (entry_at side (stored_cells side values present) r) side (take (r * side + side - r * side) (drop (r * side) xs))
  values_of_row r xs h is =
      let n : r * side + side - r * side ≡ side = omega arith in
      subst (λ ys. AreValuesOf (entry_at side (stored_cells side values present) r) side (take (r * side + side - r * side) (drop (r * side) ys))) (sym is)
      (subst (λ m. AreValuesOf (entry_at side (stored_cells side values present) r) side (take m (drop (r * side) values))) (sym n)
      (record {
        count = let fits = row_fits r h in omega (arith, length-take side (drop (r * side) values), length-drop (r * side) values, fits);
        each = λ c some.
            let k = column_of_entry r c some in
            get_part values (r * side) side c k (row_fits r h)
            ∙ sym (ap (λ b. cond b (slice_get values (r * side + c)) None) (sym (present_is r c h k) ∙ some))
            ∙ sym (entry_is r c h k);
      }))

  pub words_of_row : (r : ℕ) (words : List ℕ) → r < side → IsBitTable present → AreWordsOf (has_bit present r) present.columns words → AreWordsOf (λ c. is_some (entry_at side (stored_cells side values present) r c)) side words
  words_of_row r words h table are = record {
    count = are.count ∙ ap (λ n. (n + 63) / 64) s.columns;
    each = λ c below. are.each c below ∙ sym (same c);
  }
    where
      same : (c : ℕ) → is_some (entry_at side (stored_cells side values present) r c) ≡ has_bit present r c
      same c =
          ⊎_elim
          (λ (k : c < side). present_is r c h k)
          (λ (past : side ≤ c).
          ap is_some (past_side r c past)
          ∙ ⊎_elim
          (λ (has : has_bit present r c ≡ true). let inside = table.inside r c has in absurd (omega (arith, inside.1, s.columns)))
          (λ (lacks : has_bit present r c ≡ false). sym lacks)
          (cases_Bool (has_bit present r c)))
          (cases_lt c side)

  -- ---- all values

  cell_is : (k : ℕ) → k < side * side → get_or cells k None ≡ stored_cell side values present k
  cell_is k h = get_or-map-range_with_len (stored_cell side values present) 0 (side * side) k k None h (omega arith)

  pub all_values : (xs : List V) → xs ≡ values → AreAllValuesOf (stored_cells side values present) xs
  all_values xs is =
      let size = length-map-range_with_len (stored_cell side values present) 0 (side * side) in
      subst (AreAllValuesOf (stored_cells side values present)) (sym is)
      (record {
        count = s.count ∙ sym size;
        each = λ k some.
            ⊎_elim
            (λ (within : k < side * side). read (has_bit present (k / side) (k % side)) k (cell_is k within) some)
            (λ (past : side * side ≤ k).
            absurd (false≢true (sym (ap is_some (get_or_past (stored_cells side values present) k None (omega (arith, past, size)))) ∙ some)))
            (cases_lt k (side * side));
      })
    where
      read : (b : Bool) (k : ℕ) → get_or cells k None ≡ cond b (slice_get values k) None → IsSome (get_or cells k None) → slice_get values k ≡ get_or cells k None
      read true k same some = sym same
      read false k same some = absurd (false≢true (sym (ap is_some same) ∙ some))

  -- ---- one cell changed

  module _ (r c : ℕ) (cell : Option V) (x : V) (after : BitTable) (h : r < side) (k : c < side) (puts : PutsBit present after r c (is_some cell)) where
    abbrev place : ℕ
    place = r * side + c

    abbrev changed : List V
    changed = set values place (unwrap_or cell x)

    hit_by : (o : Option V) → cond (is_some o) (slice_get (set values place (unwrap_or o x)) place) None ≡ o
    hit_by None = refl
    hit_by (Some v) = get_set_same values place v (place_below r c h k)

    hit : stored_cell side changed after place ≡ cell
    hit =
        ap (λ b. cond b (slice_get changed place) None)
        (puts.bits (place / side) (place % side)
        ∙ place_hit (place / side) r (place % side) c (is_some cell) (has_bit present (place / side) (place % side)) (div-mul-add r side c k) (mod-mul-add r side c k))
        ∙ hit_by cell

    missed : (i : ℕ) → i ≢ place → stored_cell side changed after i ≡ stored_cell side values present i
    missed i apart =
        ap (λ b. cond b (slice_get changed i) None)
        (puts.bits (i / side) (i % side)
        ∙ place_missed (i / side) r (i % side) c (is_some cell) (has_bit present (i / side) (i % side))
        (λ row column. apart (sym (div-add-mod' i side) ∙ ap (λ n. n * side + i % side) row ∙ ap (λ n. r * side + n) column)))
        ∙ ap (λ o. cond (has_bit present (i / side) (i % side)) o None) (get_set_other values place i (unwrap_or cell x) apart)

    pub set_cells : stored_cells side (set values (r * side + c) (unwrap_or cell x)) after ≡ set (stored_cells side values present) (r * side + c) cell
    set_cells =
        let size = length-map-range_with_len (stored_cell side changed after) 0 (side * side) in
        let old = length-map-range_with_len (stored_cell side values present) 0 (side * side) in
        let put = length-set cells place cell in
        same_lists (stored_cells side changed after) (set cells place cell) (omega (arith, size, old, put))
        (λ i d below.
        let within : i < side * side = omega (arith, size, below) in
        get_or-map-range_with_len (stored_cell side changed after) 0 (side * side) i i d within (omega arith)
        ∙ ⊎_elim
        (λ (here : eqb i place ≡ true).
        let is = (Decides-eqb i place).0 here in
        ap (stored_cell side changed after) is
        ∙ hit
        ∙ sym (get_or-set_same cells place cell d (let inside = mul-add-lt r side c side h k in omega (arith, inside, old)))
        ∙ ap (λ n. get_or (set cells place cell) n d) (sym is))
        (λ (there : eqb i place ≡ false).
        let apart : i ≢ place = λ e. false≢true (sym there ∙ (Decides-eqb i place).1 e) in
        missed i apart
        ∙ sym (get_or-map-range_with_len (stored_cell side values present) 0 (side * side) i i d within (omega arith))
        ∙ sym (get_or-set_other cells place i cell d apart))
        (cases_Bool (eqb i place)))

    abbrev with_cells : List (Option V) → CellTable V
    with_cells xs = record { side = side; cells = xs }

    pub set_table : (v : V) → v ≡ unwrap_or cell x → with_cells (stored_cells side (set values (r * side + c) v) after) ≡ with_cells (set (stored_cells side values present) (r * side + c) cell)
    set_table v is = ap (λ y. with_cells (stored_cells side (set values (r * side + c) y) after)) is ∙ ap with_cells set_cells

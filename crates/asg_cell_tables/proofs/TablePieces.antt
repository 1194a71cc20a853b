-- Tables with a piece of a row written over, at most 64 cells side by side.
use Rattle.asg_cell_tables.proofs.Common.{◌≡◌, ℕ, zero, suc, ◌+◌, ◌-◌, ◌*◌, ◌/◌, ◌%◌, ◌<◌, ◌≤◌, min, true, false, cond, ◌&&◌, eqb, List, [], ◌∷◌, ◌++◌, length, get_or, take, drop, if◌then◌else◌, ◌==◌, slice_get, None, Option, sym, refl, ap, ◌∙◌, ⊎_elim, zero-add, arith, length-drop, take-append-drop, length-take-le, lt-ltb, Decides-eqb, cases_Bool, cases_lt, false≢true, get_or_past, mul-add-lt, BitTable, has_bit, is_bit_set, word_count, PutsWord, same_place, place_hit, place_missed, CellTable, entry_at, stored_cells, IsStored, piece_cell, length-append}
use Rattle.asg_cell_tables.proofs.TableLemmas.{is_table, entry_is}

-- at most 64 cells of a row were written, those from column 64 times the number on
pub record PutsPiece {V : Type 0} (T after : CellTable V) (r number : ℕ) (values : List V) (word : ℕ) : Type 0 where
  pub side : after.side ≡ T.side
  pub each : (s d : ℕ) → d < T.side → entry_at after.side after.cells s d ≡ (if (s == r) && (d / 64 == number) then piece_cell values word (d % 64) else entry_at T.side T.cells s d)

-- ---- reads of lists

read_left : {A : Type 0} (xs ys : List A) (i : ℕ) → i < length xs → slice_get (xs ++ ys) i ≡ slice_get xs i
read_left [] ys i h = absurd (omega arith)
read_left (x ∷ xs) ys zero h = refl
read_left (x ∷ xs) ys (suc i) h = read_left xs ys i (omega arith)

read_right : {A : Type 0} (xs ys : List A) (i : ℕ) → slice_get (xs ++ ys) (length xs + i) ≡ slice_get ys i
read_right [] ys i = ap (slice_get ys) (zero-add i)
read_right (x ∷ xs) ys i =
    let next : suc (length xs) + i ≡ suc (length xs + i) = omega arith in
    ap (slice_get (x ∷ (xs ++ ys))) next ∙ read_right xs ys i

-- a list with some items written over, from a place on
abbrev pub spliced : {A : Type 0} → List A → List A → ℕ → List A
spliced xs piece first = take first xs ++ (piece ++ drop (first + length piece) xs)

module _ {A : Type 0} (xs piece : List A) (first : ℕ) (fits : first + length piece ≤ length xs) where
  abbrev front : List A
  front = take first xs

  abbrev rest : List A
  rest = drop (first + length piece) xs

  front_long : length front ≡ first
  front_long = length-take-le first xs (omega (arith, fits))

  pub length-spliced : length (spliced xs piece first) ≡ length xs
  length-spliced = omega (arith, length-append front (piece ++ rest), length-append piece rest, front_long, length-drop (first + length piece) xs, fits)

  pub spliced_in : (k : ℕ) → k < length piece → slice_get (spliced xs piece first) (first + k) ≡ slice_get piece k
  spliced_in k h = ap (λ n. slice_get (spliced xs piece first) (n + k)) (sym front_long) ∙ read_right front (piece ++ rest) k ∙ read_left piece rest k h

  pub spliced_before : (i : ℕ) → i < first → slice_get (spliced xs piece first) i ≡ slice_get xs i
  spliced_before i h =
      read_left front (piece ++ rest) i (omega (arith, front_long, h))
      ∙ sym (read_left front (drop first xs) i (omega (arith, front_long, h)))
      ∙ ap (λ ys. slice_get ys i) (take-append-drop first xs)

  pub spliced_after : (i : ℕ) → first + length piece ≤ i → slice_get (spliced xs piece first) i ≡ slice_get xs i
  spliced_after i h =
      let before = take (first + length piece) xs in
      let long : length before ≡ first + length piece = length-take-le (first + length piece) xs fits in
      let k = i - (first + length piece) in
      ap (slice_get (spliced xs piece first)) (omega (arith, h, front_long))
      ∙ read_right front (piece ++ rest) (length piece + k)
      ∙ read_right piece rest k
      ∙ sym (read_right before rest k)
      ∙ ap (slice_get (before ++ rest)) (omega (arith, h, long))
      ∙ ap (λ ys. slice_get ys i) (take-append-drop (first + length piece) xs)

-- ---- a table with a piece of a row written over

-- a piece of a row lies within the table
pub piece_fits : {V : Type 0} (side : ℕ) (values : List V) (present : BitTable) → IsStored side values present → (r number : ℕ) (piece : List V) → r < side → number < word_count side → length piece ≡ min 64 (side - 64 * number) → r * side + 64 * number + length piece ≤ length values
piece_fits side values present s r number piece row_below number_below count =
    let last = mul-add-lt r side (side - 1) side row_below (omega (arith, row_below)) in
    omega (arith, last, count, s.count, number_below)

module _ {V : Type 0} (side : ℕ) (values : List V) (present after : BitTable) (s : IsStored side values present) (r number : ℕ) (piece : List V) (word : ℕ) (row_below : r < side) (number_below : number < word_count side) (count : length piece ≡ min 64 (side - 64 * number)) (puts : PutsWord present after r number word) where
  abbrev first : ℕ
  first = r * side + 64 * number

  fits : first + length piece ≤ length values
  fits = piece_fits side values present s r number piece row_below number_below count

  abbrev new_values : List V
  new_values = spliced values piece first

  pub stored_after : IsStored side new_values after
  stored_after = record {
    few = s.few;
    count = length-spliced values piece first fits ∙ s.count;
    rows = puts.rows ∙ s.rows;
    columns = puts.columns ∙ s.columns;
  }

  abbrev old_entry : ℕ → ℕ → Option V
  old_entry t d = entry_at side (stored_cells side values present) t d

  abbrev new_entry : ℕ → ℕ → Option V
  new_entry t d = entry_at side (stored_cells side new_values after) t d

  hit : (d : ℕ) → d < side → d / 64 ≡ number → new_entry r d ≡ piece_cell piece word (d % 64)
  hit d h e =
      entry_is side new_values after stored_after r d row_below h
      ∙ ap (λ b. cond b (slice_get new_values (r * side + d)) None) (puts.bits r d ∙ place_hit r r (d / 64) number (is_bit_set word (d % 64)) (has_bit present r d) refl e)
      ∙ ap (λ i. cond (is_bit_set word (d % 64)) (slice_get new_values i) None) (omega (arith, e))
      ∙ ap (λ o. cond (is_bit_set word (d % 64)) o None) (spliced_in values piece first fits (d % 64) (omega (arith, e, h, count)))

  kept_value : (t d : ℕ) → t < side → d < side → (t ≡ r → d / 64 ≡ number → ⊥) → slice_get new_values (t * side + d) ≡ slice_get values (t * side + d)
  kept_value t d below h other =
      let i = t * side + d in
      ⊎_elim
      (λ (before : i < first). spliced_before values piece first fits i before)
      (λ (from : first ≤ i).
      ⊎_elim
      (λ (inside : i < first + length piece).
      let y = 64 * number + (i - first) in
      let same = same_place side t d r y h (omega (arith, inside, from, count, number_below)) (omega (arith, from)) in
      absurd (other same.0 (omega (arith, same.1, inside, from, count))))
      (λ (past : first + length piece ≤ i). spliced_after values piece first fits i past)
      (cases_lt i (first + length piece)))
      (cases_lt i first)

  missed : (t d : ℕ) → t < side → d < side → (t ≡ r → d / 64 ≡ number → ⊥) → new_entry t d ≡ old_entry t d
  missed t d below h other =
      entry_is side new_values after stored_after t d below h
      ∙ ap (λ b. cond b (slice_get new_values (t * side + d)) None) (puts.bits t d ∙ place_missed t r (d / 64) number (is_bit_set word (d % 64)) (has_bit present t d) other)
      ∙ ap (λ o. cond (has_bit present t d) o None) (kept_value t d below h other)
      ∙ sym (entry_is side values present s t d below h)

  past_rows : (cells : List (Option V)) (t d : ℕ) → length cells ≡ side * side → side ≤ t → d < side → entry_at side cells t d ≡ None
  past_rows cells t d size past h =
      ap (λ b. cond b (get_or cells (t * side + d) None) None) (lt-ltb d side h)
      ∙ get_or_past cells (t * side + d) None (grind (arith, size, past))

  pub piece_cells : (t d : ℕ) → d < side → new_entry t d ≡ cond (eqb t r && eqb (d / 64) number) (piece_cell piece word (d % 64)) (old_entry t d)
  piece_cells t d h =
      ⊎_elim
      (λ (row : eqb t r ≡ true).
      let same_row = (Decides-eqb t r).0 row in
      ⊎_elim
      (λ (column : eqb (d / 64) number ≡ true).
      let at = (Decides-eqb (d / 64) number).0 column in
      ap (λ i. new_entry i d) same_row ∙ hit d h at ∙ sym (place_hit t r (d / 64) number (piece_cell piece word (d % 64)) (old_entry t d) same_row at))
      (λ (column : eqb (d / 64) number ≡ false).
      let apart : t ≡ r → d / 64 ≡ number → ⊥ = λ _ at. false≢true (sym column ∙ (Decides-eqb (d / 64) number).1 at) in
      missed t d (omega (arith, same_row, row_below)) h apart ∙ sym (place_missed t r (d / 64) number (piece_cell piece word (d % 64)) (old_entry t d) apart))
      (cases_Bool (eqb (d / 64) number)))
      (λ (row : eqb t r ≡ false).
      let apart : t ≡ r → d / 64 ≡ number → ⊥ = λ same _. false≢true (sym row ∙ (Decides-eqb t r).1 same) in
      ⊎_elim
      (λ (below : t < side). missed t d below h apart)
      (λ (past : side ≤ t).
      past_rows (stored_cells side new_values after) t d (is_table side new_values after stored_after).count past h
      ∙ sym (past_rows (stored_cells side values present) t d (is_table side values present s).count past h))
      (cases_lt t side)
      ∙ sym (place_missed t r (d / 64) number (piece_cell piece word (d % 64)) (old_entry t d) apart))
      (cases_Bool (eqb t r))

  abbrev with_cells : List (Option V) → CellTable V
  with_cells xs = record { side = side; cells = xs }

  pub puts_piece : PutsPiece (with_cells (stored_cells side values present)) (with_cells (stored_cells side new_values after)) r number piece word
  puts_piece = record { side = refl; each = piece_cells }

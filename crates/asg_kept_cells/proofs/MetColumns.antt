-- The columns in which rows have cells, word by word.
use Rattle.asg_kept_cells.proofs.Common.{◌≡◌, ℕ, suc, ◌+◌, ◌*◌, ◌/◌, ◌%◌, ◌<◌, Bool, true, false, cond, ◌&&◌, ◌||◌, ◌≢◌, List, [], ◌∷◌, length, get_or, take, is_some, bit_or, Some, None, Option, sym, refl, ap, ◌∙◌, subst, arith, list_any, list_any-append, take_more, BitTable, has_bit, is_bit_set, is_with, AreMetIn, HasSize, kept_cells, keeps-bit, count_below, one, Grid, cell_at, cell_at-masked}

-- a cell is there and its bit is set where it is kept
pub kept_cell : {V : Type 0} (Q : Grid V) (kept : BitTable) → HasSize Q.side kept → (r k : ℕ) → (is_some (cell_at Q r k) && has_bit kept r k) ≡ kept_cells Q kept r k
kept_cell {V} Q kept size r k =
    by (cell_at Q r k) (has_bit kept r k)
    ∙ ap (λ b. is_some (cond b (cell_at Q r k) None)) (sym (keeps-bit kept Q.side size.columns r k))
    ∙ ap is_some (sym (cell_at-masked Q kept.words r k))
  where
    by : (o : Option V) (b : Bool) → (is_some o && b) ≡ is_some (cond b o None)
    by None true = refl
    by None false = refl
    by (Some x) true = refl
    by (Some x) false = refl

module _ (has : ℕ → ℕ → Bool) (rows : List ℕ) where
  any_or : (a b : Bool) → cond b true a ≡ (a || (b || false))
  any_or true true = refl
  any_or true false = refl
  any_or false true = refl
  any_or false false = refl

  -- one row more
  pub met_more : (number place word row bits : ℕ) → place < length rows → row ≡ get_or rows place 0 → AreMetIn has (take place rows) number word → ((k : ℕ) → k < 64 → is_bit_set bits k ≡ has row (64 * number + k)) → AreMetIn has (take (place + 1) rows) number (bit_or word bits)
  met_more number place word row bits within is met one_row k below =
      let p = λ (r : ℕ). has r (64 * number + k) in
      is_with word bits k
      ∙ (λ i. cond (one_row k below i) true (met k below i))
      ∙ any_or (list_any p (take place rows)) (p row)
      ∙ ap (λ r. list_any p (take place rows) || (p r || false)) is
      ∙ sym (ap (list_any p) (take_more rows place 0 within) ∙ list_any-append p (take place rows) (get_or rows place 0 ∷ []))

  -- the column after one is among the columns of the same word, unless it is the first of its own
  pub met_next : (column word : ℕ) → (column + 1) % 64 ≢ 0 → AreMetIn has rows (column / 64) word → AreMetIn has rows ((column + 1) / 64) word
  met_next column word inner met =
      let same : column / 64 ≡ (column + 1) / 64 = omega (arith, inner) in
      subst (λ n. AreMetIn has rows n word) same met

  -- one column more is counted
  pub met_counted : (column word count more : ℕ) → count ≡ count_below (λ k. list_any (λ r. has r k) rows) column → AreMetIn has rows (column / 64) word → more ≡ one (is_bit_set word (column % 64)) → count + more ≡ count_below (λ k. list_any (λ r. has r k) rows) (column + 1)
  met_counted column word count more is met counted =
      let p = λ (k : ℕ). list_any (λ r. has r k) rows in
      let place : 64 * (column / 64) + column % 64 ≡ column = omega arith in
      let here : more ≡ one (p column) = counted ∙ ap one (met (column % 64) (omega arith) ∙ ap p place) in
      let next : suc column ≡ column + 1 = omega arith in
      let step : count_below p (suc column) ≡ count_below p column + one (p column) = refl in
      omega (arith, is, here, step, ap (count_below p) next)

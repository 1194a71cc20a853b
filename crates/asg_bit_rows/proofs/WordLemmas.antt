-- One word of rows of bits, written at once.
use Rattle.asg_bit_rows.proofs.Common.{◌≡◌, ℕ, ◌+◌, ◌*◌, ◌/◌, ◌%◌, ◌<◌, ◌≤◌, Bool, true, false, cond, ◌&&◌, eqb, ◌≢◌, List, length, get_or, set, IsTrue, slice_index, sym, refl, ap, ◌∙◌, subst, ⊎_elim, arith, length-set, get_or-set_other, get_or-set_same, le-ltb, lt-ltb, Decides-eqb, cases_Bool, cases_lt, false≢true, mul-add-lt, BitTable, word_count, is_bit_set, has_bit, IsBitTable, PutsWord, same_place, place_hit, place_missed}

module _ (rows columns : ℕ) (words : List ℕ) (table : IsBitTable (record { rows = rows; columns = columns; words = words })) (r number word : ℕ) (row_below : r < rows) (number_below : number < word_count columns) (inside : (k : ℕ) → k < 64 → IsTrue (is_bit_set word k) → 64 * number + k < columns) where
  abbrev place : ℕ
  place = r * word_count columns + number

  abbrev before : BitTable
  before = record { rows = rows; columns = columns; words = words }

  abbrev after : BitTable
  after = record { rows = rows; columns = columns; words = set words place word }

  place_below : place < length words
  place_below = let below = mul-add-lt r (word_count columns) number rows row_below number_below in omega (arith, below, table.count)

  past : (s d : ℕ) (words : List ℕ) → word_count columns ≤ d / 64 → has_bit (record { rows = rows; columns = columns; words = words }) s d ≡ false
  past s d words h = ap (λ x. x && is_bit_set (slice_index words (s * word_count columns + d / 64)) (d % 64)) (le-ltb (d / 64) (word_count columns) h)

  read : (s d : ℕ) (words : List ℕ) → d / 64 < word_count columns → has_bit (record { rows = rows; columns = columns; words = words }) s d ≡ is_bit_set (slice_index words (s * word_count columns + d / 64)) (d % 64)
  read s d words h = ap (λ x. x && is_bit_set (slice_index words (s * word_count columns + d / 64)) (d % 64)) (lt-ltb (d / 64) (word_count columns) h)

  pub word_bits : (s d : ℕ) → has_bit after s d ≡ (cond (eqb s r && eqb (d / 64) number) (is_bit_set word (d % 64)) (has_bit before s d))
  word_bits s d =
      ⊎_elim
      (λ (h : d / 64 < word_count columns).
      ⊎_elim
      (λ (same : eqb (s * word_count columns + d / 64) place ≡ true).
      let e = (Decides-eqb (s * word_count columns + d / 64) place).0 same in
      let is = same_place (word_count columns) s (d / 64) r number h number_below e in
      read s d (set words place word) h
      ∙ ap (λ k. is_bit_set (get_or (set words place word) k 0) (d % 64)) e
      ∙ ap (λ w. is_bit_set w (d % 64)) (get_or-set_same words place word 0 place_below)
      ∙ sym (place_hit s r (d / 64) number (is_bit_set word (d % 64)) (has_bit before s d) is.0 is.1))
      (λ (other : eqb (s * word_count columns + d / 64) place ≡ false).
      let apart : s * word_count columns + d / 64 ≢ place = λ e. false≢true (sym other ∙ (Decides-eqb (s * word_count columns + d / 64) place).1 e) in
      read s d (set words place word) h
      ∙ ap (λ w. is_bit_set w (d % 64)) (get_or-set_other words place (s * word_count columns + d / 64) word 0 apart)
      ∙ sym (read s d words h)
      ∙ sym (place_missed s r (d / 64) number (is_bit_set word (d % 64)) (has_bit before s d) (λ row column. apart (ap (λ k. k * word_count columns + d / 64) row ∙ ap (λ k. r * word_count columns + k) column))))
      (cases_Bool (eqb (s * word_count columns + d / 64) place)))
      (λ (h : word_count columns ≤ d / 64).
      past s d (set words place word) h
      ∙ sym (past s d words h)
      ∙ sym (place_missed s r (d / 64) number (is_bit_set word (d % 64)) (has_bit before s d) (λ row column. absurd (omega (arith, column, h, number_below)))))
      (cases_lt (d / 64) (word_count columns))

  inside_by : (s d : ℕ) (x y : Bool) → eqb s r ≡ x → eqb (d / 64) number ≡ y → IsTrue (cond (x && y) (is_bit_set word (d % 64)) (has_bit before s d)) → (s < rows) × (d < columns)
  inside_by s d true true e f is =
      let row = (Decides-eqb s r).0 e in
      let number_is = (Decides-eqb (d / 64) number).0 f in
      let below = inside (d % 64) (omega arith) is in
      (omega (arith, row, row_below), omega (arith, number_is, below))
  inside_by s d true false e f is = table.inside s d is
  inside_by s d false y e f is = table.inside s d is

  pub word_is_table : IsBitTable after
  word_is_table = record {
    few_rows = table.few_rows;
    few_columns = table.few_columns;
    count = length-set words place word ∙ table.count;
    inside = λ s d is. inside_by s d (eqb s r) (eqb (d / 64) number) refl refl (sym (word_bits s d) ∙ is);
  }

  pub word_puts : PutsWord before after r number word
  word_puts = record { rows = refl; columns = refl; bits = word_bits }

-- the same, at the place by the width that is kept
module _ (B : BitTable) (r number width word : ℕ) (table : IsBitTable B) (row_below : r < B.rows) (number_below : number < word_count B.columns) (inside : (k : ℕ) → k < 64 → IsTrue (is_bit_set word k) → 64 * number + k < B.columns) (wide : width ≡ word_count B.columns) where
  pub stored_is_table : IsBitTable (record { rows = B.rows; columns = B.columns; words = set B.words (r * width + number) word })
  stored_is_table =
      subst (λ n. IsBitTable (record { rows = B.rows; columns = B.columns; words = set B.words (r * n + number) word })) (sym wide)
      (word_is_table B.rows B.columns B.words table r number word row_below number_below inside)

  pub stored_puts : PutsWord B (record { rows = B.rows; columns = B.columns; words = set B.words (r * width + number) word }) r number word
  stored_puts =
      subst (λ n. PutsWord B (record { rows = B.rows; columns = B.columns; words = set B.words (r * n + number) word }) r number word) (sym wide)
      (word_puts B.rows B.columns B.words table r number word row_below number_below inside)

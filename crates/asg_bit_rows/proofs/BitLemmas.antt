-- One bit of rows of bits, set or cleared.
use Rattle.asg_bit_rows.proofs.Common.{◌≡◌, ℕ, ◌+◌, ◌*◌, ◌/◌, ◌%◌, ◌^◌, ◌<◌, ◌≤◌, Bool, true, false, cond, ◌&&◌, eqb, ◌≢◌, List, length, get_or, set, IsTrue, nat_lt, slice_index, bit_and, sym, refl, ap, ◌∙◌, subst, ⊎_elim, arith, length-set, get_or-set_other, get_or-set_same, le-ltb, lt-ltb, Decides-eqb, cases_Bool, cases_lt, false≢true, get_or_default, mul-add-lt, shr_and_one, BitTable, word_count, is_bit_set, has_bit, IsBitTable, PutsBit, same_place, place_hit, place_missed}

module _ (rows columns : ℕ) (words : List ℕ) (table : IsBitTable (record { rows = rows; columns = columns; words = words })) (r c word : ℕ) (b : Bool) (row_below : r < rows) (column_below : c < columns) (same : is_bit_set word (c % 64) ≡ b) (others : (k : ℕ) → k < 64 → k ≢ c % 64 → is_bit_set word k ≡ is_bit_set (slice_index words (r * word_count columns + c / 64)) k) where
  abbrev place : ℕ
  place = r * word_count columns + c / 64

  abbrev before : BitTable
  before = record { rows = rows; columns = columns; words = words }

  abbrev after : BitTable
  after = record { rows = rows; columns = columns; words = set words place word }

  within : c / 64 < word_count columns
  within = omega arith

  place_below : place < length words
  place_below = let below = mul-add-lt r (word_count columns) (c / 64) rows row_below within in omega (arith, below, table.count)

  past : (s d : ℕ) (B : BitTable) → B.columns ≡ columns → word_count columns ≤ d / 64 → has_bit B s d ≡ false
  past s d B e h = ap (λ x. x && is_bit_set (slice_index B.words (s * word_count B.columns + d / 64)) (d % 64)) (ap (λ n. nat_lt (d / 64) (word_count n)) e ∙ le-ltb (d / 64) (word_count columns) h)

  inside : (s d : ℕ) (words : List ℕ) → d / 64 < word_count columns → has_bit (record { rows = rows; columns = columns; words = words }) s d ≡ is_bit_set (slice_index words (s * word_count columns + d / 64)) (d % 64)
  inside s d words h = ap (λ x. x && is_bit_set (slice_index words (s * word_count columns + d / 64)) (d % 64)) (lt-ltb (d / 64) (word_count columns) h)

  other_place : (s d : ℕ) → d / 64 < word_count columns → s * word_count columns + d / 64 ≢ place → has_bit after s d ≡ has_bit before s d
  other_place s d h apart =
      inside s d (set words place word) h
      ∙ ap (λ w. is_bit_set w (d % 64)) (get_or-set_other words place (s * word_count columns + d / 64) word 0 apart)
      ∙ sym (inside s d words h)

  this_place : (s d : ℕ) → d / 64 < word_count columns → s * word_count columns + d / 64 ≡ place → has_bit after s d ≡ is_bit_set word (d % 64)
  this_place s d h e =
      inside s d (set words place word) h
      ∙ ap (λ k. is_bit_set (get_or (set words place word) k 0) (d % 64)) e
      ∙ ap (λ w. is_bit_set w (d % 64)) (get_or-set_same words place word 0 place_below)

  at_this_place : (s d : ℕ) → d / 64 < word_count columns → s * word_count columns + d / 64 ≡ place → has_bit after s d ≡ (cond (eqb s r && eqb d c) b (has_bit before s d))
  at_this_place s d h e =
      let is = same_place (word_count columns) s (d / 64) r (c / 64) h within e in
      ⊎_elim
      (λ (here : eqb (d % 64) (c % 64) ≡ true).
      let bit = (Decides-eqb (d % 64) (c % 64)).0 here in
      let column : d ≡ c = omega (arith, is.1, bit) in
      this_place s d h e ∙ ap (is_bit_set word) bit ∙ same ∙ sym (place_hit s r d c b (has_bit before s d) is.0 column))
      (λ (there : eqb (d % 64) (c % 64) ≡ false).
      let apart : d % 64 ≢ c % 64 = λ bit. false≢true (sym there ∙ (Decides-eqb (d % 64) (c % 64)).1 bit) in
      this_place s d h e
      ∙ others (d % 64) (omega arith) apart
      ∙ ap (λ k. is_bit_set (get_or words k 0) (d % 64)) (sym e)
      ∙ sym (inside s d words h)
      ∙ sym (place_missed s r d c b (has_bit before s d) (λ row column. apart (ap (λ n. n % 64) column))))
      (cases_Bool (eqb (d % 64) (c % 64)))

  pub put_bits : (s d : ℕ) → has_bit after s d ≡ (cond (eqb s r && eqb d c) b (has_bit before s d))
  put_bits s d =
      ⊎_elim
      (λ (h : d / 64 < word_count columns).
      ⊎_elim
      (λ (e : eqb (s * word_count columns + d / 64) place ≡ true). at_this_place s d h ((Decides-eqb (s * word_count columns + d / 64) place).0 e))
      (λ (other : eqb (s * word_count columns + d / 64) place ≡ false).
      let apart : s * word_count columns + d / 64 ≢ place = λ e. false≢true (sym other ∙ (Decides-eqb (s * word_count columns + d / 64) place).1 e) in
      other_place s d h apart
      ∙ sym (place_missed s r d c b (has_bit before s d) (λ row column. apart (ap (λ k. k * word_count columns + d / 64) row ∙ ap (λ k. r * word_count columns + k / 64) column))))
      (cases_Bool (eqb (s * word_count columns + d / 64) place)))
      (λ (h : word_count columns ≤ d / 64).
      past s d after refl h ∙ sym (past s d before refl h)
      ∙ sym (place_missed s r d c b (has_bit before s d) (λ row column. let e = ap (λ k. k / 64) column in let k = within in absurd (omega (arith, e, h, k)))))
      (cases_lt (d / 64) (word_count columns))

  put_inside_by : (s d : ℕ) (x y : Bool) → eqb s r ≡ x → eqb d c ≡ y → IsTrue (cond (x && y) b (has_bit before s d)) → (s < rows) × (d < columns)
  put_inside_by s d true true e f is =
      let row = (Decides-eqb s r).0 e in
      let column = (Decides-eqb d c).0 f in
      (omega (arith, row, row_below), omega (arith, column, column_below))
  put_inside_by s d true false e f is = table.inside s d is
  put_inside_by s d false y e f is = table.inside s d is

  pub put_is_table : IsBitTable after
  put_is_table = record {
    few_rows = table.few_rows;
    few_columns = table.few_columns;
    count = length-set words place word ∙ table.count;
    inside = λ s d is. put_inside_by s d (eqb s r) (eqb d c) refl refl (sym (put_bits s d) ∙ is);
  }

-- the word that holds a bit, as it is read
module _ (B : BitTable) (r c width x : ℕ) (table : IsBitTable B) (row_below : r < B.rows) (column_below : c < B.columns) (wide : width ≡ word_count B.columns) (read : x ≡ get_or B.words (r * width + c / 64) x) where
  word_within : c / 64 < word_count B.columns
  word_within = omega arith

  pub word_read : x ≡ slice_index B.words (r * word_count B.columns + c / 64)
  word_read =
      let w = word_count B.columns in
      let below = mul-add-lt r w (c / 64) B.rows row_below word_within in
      read
      ∙ ap (λ n. get_or B.words (r * n + c / 64) x) wide
      ∙ get_or_default B.words (r * w + c / 64) x 0 (omega (arith, below, table.count))

  -- a bit that is read by a shift
  pub bit_read : eqb (bit_and (x / 2 ^ (c % 64)) 1) 1 ≡ has_bit B r c
  bit_read =
      let w = word_count B.columns in
      ap (λ n. eqb n 1) (shr_and_one x (c % 64))
      ∙ ap (λ n. is_bit_set n (c % 64)) word_read
      ∙ sym (ap (λ b. b && is_bit_set (get_or B.words (r * w + c / 64) 0) (c % 64)) (lt-ltb (c / 64) w word_within))

  abbrev written : ℕ → BitTable
  written word = record { rows = B.rows; columns = B.columns; words = set B.words (r * width + c / 64) word }

  module _ (word : ℕ) (b : Bool) (same : is_bit_set word (c % 64) ≡ b) (others : (k : ℕ) → k < 64 → k ≢ c % 64 → is_bit_set word k ≡ is_bit_set x k) where
    kept : (k : ℕ) → k < 64 → k ≢ c % 64 → is_bit_set word k ≡ is_bit_set (slice_index B.words (r * word_count B.columns + c / 64)) k
    kept k h apart = others k h apart ∙ ap (λ n. is_bit_set n k) word_read

    pub written_is_table : IsBitTable (written word)
    written_is_table =
        subst (λ n. IsBitTable (record { rows = B.rows; columns = B.columns; words = set B.words (r * n + c / 64) word })) (sym wide)
        (put_is_table B.rows B.columns B.words table r c word b row_below column_below same kept)

    pub written_puts : PutsBit B (written word) r c b
    written_puts =
        subst (λ n. PutsBit B (record { rows = B.rows; columns = B.columns; words = set B.words (r * n + c / 64) word }) r c b) (sym wide)
        (record { rows = refl; columns = refl; bits = put_bits B.rows B.columns B.words table r c word b row_below column_below same kept })

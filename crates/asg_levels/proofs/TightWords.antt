-- Bits of words as tests.
use Rattle.asg_levels.proofs.Common.{◌≡◌, ℕ, ◌+◌, ◌-◌, ◌*◌, ◌/◌, ◌%◌, ◌^◌, ◌<◌, ◌≤◌, Bool, true, false, cond, not, ◌&&◌, ◌||◌, eqb, ◌≢◌, ◌⊎◌, List, map, length, get_or, take, ◌==◌, bit_or, sym, refl, ap, ◌∙◌, subst, inl, inr, ⊎_elim, arith, length-take, get_or-take, w64, le-ltb, eqb-true, Decides-eqb, and_parts, bit_at, bit_at-lt, bit_at_not, bit_mask_l, bit_not, cases_eq, cases_lt, false≢true, get_or-map, mask_l, BitTable, word_count, is_bit_set, has_bit, IsBitTable, AreWordsOf, PutsWord, place_hit, place_missed, bit_in_row, bit_of, of_bit, same_bool, TightensWords, Tightens, is_tight}
use Rattle.asg_bit_rows.specs.laws.Bits.{HasBit-or}

or_cases : (b d : Bool) → (b || d) ≡ true → (b ≡ true) ⊎ (d ≡ true)
or_cases true d e = inl refl
or_cases false d e = inr e

or_from : (b d : Bool) → (b ≡ true) ⊎ (d ≡ true) → (b || d) ≡ true
or_from true d h = refl
or_from false d h = ⊎_elim (λ e. absurd (false≢true e)) (λ e. e) h

pub is_or : (a b k : ℕ) → is_bit_set (bit_or a b) k ≡ (is_bit_set a k || is_bit_set b k)
is_or a b k =
    same_bool (is_bit_set (bit_or a b) k) (is_bit_set a k || is_bit_set b k)
    (λ e. or_from (is_bit_set a k) (is_bit_set b k) (⊎_elim (λ h. inl (of_bit (bit_at a k) h)) (λ h. inr (of_bit (bit_at b k) h)) ((HasBit-or a b k).0 (bit_of (bit_at (bit_or a b) k) e))))
    (λ e. of_bit (bit_at (bit_or a b) k) ((HasBit-or a b k).1 (⊎_elim (λ h. inl (bit_of (bit_at a k) h)) (λ h. inr (bit_of (bit_at b k) h)) (or_cases (is_bit_set a k) (is_bit_set b k) e))))

pub is_not : (a k : ℕ) → a < 2 ^ 64 → k < 64 → is_bit_set (bit_not w64 a) k ≡ not (is_bit_set a k)
is_not a k fits h =
    let turned = bit_at_not w64 a k fits h in
    let small = bit_at-lt a k in
    same_bool (is_bit_set (bit_not w64 a) k) (not (is_bit_set a k))
    (λ e. let one = bit_of (bit_at (bit_not w64 a) k) e in none_of (bit_at a k) (omega (arith, one, turned, small)))
    (λ e. of_bit (bit_at (bit_not w64 a) k) (omega (arith, turned, small, zero_of (bit_at a k) e)))
  where
    none_of : (n : ℕ) → n ≡ 0 → not (n == 1) ≡ true
    none_of n e = ap (λ m. not (m == 1)) e

    zero_of : (n : ℕ) → not (n == 1) ≡ true → n ≢ 1
    zero_of n e one = false≢true (sym (ap (λ m. not (m == 1)) one) ∙ e)

one_if : (b : Bool) → (cond {A = ℕ} b 1 0 == 1) ≡ b
one_if true = refl
one_if false = refl

-- the mask of the lanes that are equal to a number
pub equal_mask : (numbers : List ℕ) (x k : ℕ) → length numbers ≡ 64 → k < 64 → is_bit_set (mask_l (map (λ y. eqb y x) (take 64 numbers))) k ≡ (get_or numbers k 0 == x)
equal_mask numbers x k long h =
    let marks = map (λ y. eqb y x) (take 64 numbers) in
    ap (λ n. n == 1) (bit_mask_l marks k)
    ∙ one_if (get_or marks k false)
    ∙ get_or-map (λ y. eqb y x) (take 64 numbers) k 0 false (omega (arith, length-take 64 numbers))
    ∙ ap (λ y. eqb y x) (get_or-take 64 numbers k 0 h)

pub one_more_each : (n x : ℕ) → (n + 1 == x + 1) ≡ (n == x)
one_more_each n x =
    same_bool (n + 1 == x + 1) (n == x)
    (λ e. (Decides-eqb n x).1 (omega (arith, eqb-true (n + 1) (x + 1) e)))
    (λ e. (Decides-eqb (n + 1) (x + 1)).1 (omega (arith, eqb-true n x e)))

pub two_parts : (a b c d : Bool) → a ≡ c → b ≡ d → (a || b) ≡ (c || d)
two_parts a b c d e h = ap (λ x. x || b) e ∙ ap (λ x. c || x) h

-- one more word
pub words_more : (before middle after zeros ones : BitTable) (outs : List ℕ) (ins row number word : ℕ) → TightensWords before middle zeros ones outs ins row number → PutsWord middle after row number word
    → ((k : ℕ) → k < 64 → is_bit_set word k ≡ ((has_bit zeros row (64 * number + k) && (get_or outs (64 * number + k) 0 == ins)) || ((has_bit ones row (64 * number + k) && not (has_bit zeros row (64 * number + k))) && (get_or outs (64 * number + k) 0 + 1 == ins))))
    → TightensWords before after zeros ones outs ins row (number + 1)
words_more before middle after zeros ones outs ins row number word so put bits = record {
  rows = put.rows ∙ so.rows;
  columns = put.columns ∙ so.columns;
  done = λ c h.
      ⊎_elim
      (λ (here : c / 64 ≡ number).
      let place : 64 * number + c % 64 ≡ c = omega (arith, here) in
      put.bits row c
      ∙ place_hit row row (c / 64) number (is_bit_set word (c % 64)) (has_bit middle row c) refl here
      ∙ bits (c % 64) (omega arith)
      ∙ ap (λ d. (has_bit zeros row d && (get_or outs d 0 == ins)) || ((has_bit ones row d && not (has_bit zeros row d)) && (get_or outs d 0 + 1 == ins))) place)
      (λ there.
      let before : c < 64 * number = earlier c number there h in
      put.bits row c
      ∙ place_missed row row (c / 64) number (is_bit_set word (c % 64)) (has_bit middle row c) (λ _ column. there column)
      ∙ so.done c before)
      (cases_eq (c / 64) number);
  rest = λ c h.
      put.bits row c
      ∙ place_missed row row (c / 64) number (is_bit_set word (c % 64)) (has_bit middle row c) (λ _ column. absurd (omega (arith, column, h)))
      ∙ so.rest c (omega (arith, h));
  others = λ r c apart.
      put.bits r c
      ∙ place_missed r row (c / 64) number (is_bit_set word (c % 64)) (has_bit middle r c) (λ same _. apart same)
      ∙ so.others r c apart;
}
  where
    earlier : (c number : ℕ) → (c / 64 ≡ number → ⊥) → c < 64 * (number + 1) → c < 64 * number
    earlier c number there h =
        ⊎_elim
        (λ (less : c < 64 * number). less)
        (λ (more : 64 * number ≤ c). let same : c / 64 ≡ number = omega (arith, h, more) in absurd (there same))
        (cases_lt c (64 * number))

pub words_none : (before zeros ones : BitTable) (outs : List ℕ) (ins row : ℕ) → TightensWords before before zeros ones outs ins row 0
words_none before zeros ones outs ins row = record {
  rows = refl;
  columns = refl;
  done = λ c h. absurd (omega (arith, h));
  rest = λ c h. refl;
  others = λ r c apart. refl;
}

module _ (zeros ones : BitTable) (outs zero_words one_words : List ℕ) (ins row number word : ℕ) (same : ones.columns ≡ zeros.columns)
    (zeros_are : AreWordsOf (has_bit zeros row) zeros.columns zero_words) (ones_are : AreWordsOf (has_bit ones row) ones.columns one_words) (below : number < word_count zeros.columns)
    (bits : (k : ℕ) → k < 64 → is_bit_set word k ≡ ((is_bit_set (get_or zero_words number 0) k && (get_or outs (64 * number + k) 0 == ins)) || ((is_bit_set (get_or one_words number 0) k && not (is_bit_set (get_or zero_words number 0) k)) && (get_or outs (64 * number + k) 0 + 1 == ins))))
  where
    -- the bits of the word by the rows of bits
    pub row_bits : (k : ℕ) → k < 64 → is_bit_set word k ≡ ((has_bit zeros row (64 * number + k) && (get_or outs (64 * number + k) 0 == ins)) || ((has_bit ones row (64 * number + k) && not (has_bit zeros row (64 * number + k))) && (get_or outs (64 * number + k) 0 + 1 == ins)))
    row_bits k h =
        bits k h
        ∙ two_parts _ _ _ _
        (ap (λ b. b && (get_or outs (64 * number + k) 0 == ins)) (bit_in_row (has_bit zeros row) zeros.columns zero_words number k zeros_are below h))
        (ap (λ b. (b && not (is_bit_set (get_or zero_words number 0) k)) && (get_or outs (64 * number + k) 0 + 1 == ins)) (bit_in_row (has_bit ones row) ones.columns one_words number k ones_are (subst (λ n. number < word_count n) (sym same) below) h)
        ∙ ap (λ b. (has_bit ones row (64 * number + k) && not b) && (get_or outs (64 * number + k) 0 + 1 == ins)) (bit_in_row (has_bit zeros row) zeros.columns zero_words number k zeros_are below h))

    -- no bit past the last column is set
    pub row_inside : IsBitTable zeros → IsBitTable ones → (k : ℕ) → k < 64 → is_bit_set word k ≡ true → 64 * number + k < zeros.columns
    row_inside zeros_table ones_table k h set =
        let c = 64 * number + k in
        ⊎_elim
        (λ (zero : (has_bit zeros row c && (get_or outs c 0 == ins)) ≡ true). (zeros_table.inside row c (and_parts (has_bit zeros row c) (get_or outs c 0 == ins) zero).0).1)
        (λ (one : ((has_bit ones row c && not (has_bit zeros row c)) && (get_or outs c 0 + 1 == ins)) ≡ true).
        let parts = and_parts (has_bit ones row c && not (has_bit zeros row c)) (get_or outs c 0 + 1 == ins) one in
        subst (λ n. c < n) same (ones_table.inside row c (and_parts (has_bit ones row c) (not (has_bit zeros row c)) parts.0).0).1)
        (or_cases _ _ (sym (row_bits k h) ∙ set))

-- past the words of a row no bit is set
pub past_words : (B : BitTable) (r c : ℕ) → 64 * word_count B.columns ≤ c → has_bit B r c ≡ false
past_words B r c past =
    ap (λ x. x && is_bit_set (get_or B.words (r * word_count B.columns + c / 64) 0) (c % 64)) (le-ltb (c / 64) (word_count B.columns) (omega (arith, past)))

pub first_false : (b d : Bool) → b ≡ false → (b && d) ≡ false
first_false b d e = ap (λ x. x && d) e

-- one more row
pub rows_more : (before after zeros ones : BitTable) (ins outs : List ℕ) (side row : ℕ) → before.columns ≡ side → Tightens before zeros ones ins outs side row → zeros.columns ≡ side → ones.columns ≡ side → TightensWords before after zeros ones outs (get_or ins row 0) row (word_count before.columns) → Tightens after zeros ones ins outs side (row + 1)
rows_more before after zeros ones ins outs side row columns so zero_columns one_columns words = record {
  rows = words.rows ∙ so.rows;
  columns = words.columns ∙ columns;
  done = λ r c h.
      ⊎_elim
      (λ (here : r ≡ row).
      subst (λ s. has_bit after s c ≡ is_tight zeros ones ins outs s c) (sym here)
      (⊎_elim
      (λ (inside : c < 64 * word_count before.columns). words.done c inside)
      (λ (past : 64 * word_count before.columns ≤ c).
      past_words after row c (far after (words.columns ∙ columns) past)
      ∙ sym (two_parts _ _ _ _
      (first_false (has_bit zeros row c) (get_or outs c 0 == get_or ins row 0) (past_words zeros row c (far zeros zero_columns past)))
      (first_false (has_bit ones row c && not (has_bit zeros row c)) (get_or outs c 0 + 1 == get_or ins row 0) (first_false (has_bit ones row c) (not (has_bit zeros row c)) (past_words ones row c (far ones one_columns past))))))
      (cases_lt c (64 * word_count before.columns))))
      (λ other. words.others r c other ∙ so.done r c (omega (arith, h, other)))
      (cases_eq r row);
}
  where
    far : {c : ℕ} (B : BitTable) → B.columns ≡ side → 64 * word_count before.columns ≤ c → 64 * word_count B.columns ≤ c
    far B e past = omega (arith, e, columns, past)

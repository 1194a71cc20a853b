-- Words and values of rows.
use Rattle.asg_kept.proofs.Common.{◌≡◌, ℕ, ◌+◌, ◌*◌, ◌/◌, ◌%◌, ◌^◌, ◌<◌, ◌≤◌, min, Bool, true, false, cond, ◌&&◌, ◌↔◌, List, length, get_or, is_some, IsSome, slice_index, bit_and, Some, None, Option, sym, refl, ap, ◌∙◌, ⊎_elim, true≢false, arith, le-leb, leb-true, bit_at, cases_lt, get_or_from_slice_get, slice_get-get_or, AreWordsOf, is_bit_set, word_count, AreValuesOf, bounded_sums, narrow_top, IsValue, Grid, cell_at, keeps-word, cell_at-masked}
use Rattle.asg_bit_rows.specs.laws.Words.{is_and}
use Rattle.asg_square.specs.Masked.{masked_grid}
use Rattle.asg_kept.specs.KeptRows.{IsWordOf, TellsLesser}

-- one of the words of a row
pub word_in : {V : Type 0} (row : ℕ → Option V) (side : ℕ) (words : List ℕ) → AreWordsOf (λ k. is_some (row k)) side words → (number word : ℕ) → number < length words → word ≡ get_or words number 0 → IsWordOf row number word
word_in row side words are number word below is = λ k few.
    let place : (64 * number + k) / 64 ≡ number = omega (arith, few) in
    let bit : (64 * number + k) % 64 ≡ k = omega (arith, few) in
    ap (λ w. is_bit_set w k) is
    ∙ ap (λ n. is_bit_set (get_or words n 0) k) (sym place)
    ∙ ap (λ b. is_bit_set (get_or words ((64 * number + k) / 64) 0) b) (sym bit)
    ∙ are.each (64 * number + k) (omega (arith, few, below))

module _ (row : ℕ → Option ℕ) (side : ℕ) (values : List ℕ) (are : AreValuesOf row side values) where
  -- a present cell, as the values of its row tell it
  pub cell_read : (k x : ℕ) → k < side → IsSome (row k) → x ≡ get_or values k 0 → row k ≡ Some x
  cell_read k x below some is =
      sym (are.each k some) ∙ slice_get-get_or values k 0 (omega (arith, below, are.count)) ∙ ap Some (sym is)

  -- sums in 64 bits that are less than keys are told
  pub tells : (keys : List ℕ) (sum number word : ℕ) → IsValue (bounded_sums narrow_top) sum
      → ((k : ℕ) → k < 64 → (bit_at word k ≡ 1) ↔ ((sum + slice_index values (64 * number + k)) % 2 ^ 64 < slice_index keys (64 * number + k)))
      → TellsLesser (bounded_sums narrow_top) row sum keys number word
  tells keys sum number word small bits k x few none is value key =
      let at = 64 * number + k in
      let read : slice_index values at ≡ x = get_or_from_slice_get values at x 0 (are.each at (ap is_some is) ∙ is) in
      let s : sum ≤ narrow_top = leb-true sum narrow_top small in
      let v : x ≤ narrow_top = leb-true x narrow_top value in
      let y : slice_index keys at ≤ narrow_top = leb-true (slice_index keys at) narrow_top key in
      ⊎_elim
      (λ (less : (sum + slice_index values at) % 2 ^ 64 < slice_index keys at). absurd (none ((bits k few).1 less)))
      (λ (other : slice_index keys at ≤ (sum + slice_index values at) % 2 ^ 64).
      let low : slice_index keys at ≤ min (sum + x) narrow_top = omega (arith, other, read, s, v, y) in
      le-leb (slice_index keys at) (min (sum + x) narrow_top) low)
      (cases_lt ((sum + slice_index values at) % 2 ^ 64) (slice_index keys at))

-- a bit of a word says whether there is a cell
module _ {V : Type 0} (row : ℕ → Option V) (k word : ℕ) (is : IsWordOf row (k / 64) word) where
  bit_is : is_some (row k) ≡ is_bit_set word (k % 64)
  bit_is =
      let back : k ≡ 64 * (k / 64) + k % 64 = omega arith in
      ap (λ j. is_some (row j)) back ∙ sym (is (k % 64) (omega arith))

  pub bit_some : is_bit_set word (k % 64) ≡ true → IsSome (row k)
  bit_some set = bit_is ∙ set

  pub bit_none : is_bit_set word (k % 64) ≡ false → row k ≡ None
  bit_none clear = none (row k) (bit_is ∙ clear)
    where
      none : (o : Option V) → is_some o ≡ false → o ≡ None
      none None e = refl
      none (Some x) e = absurd (true≢false e)

-- one of the words of a row without some cells
module _ {V : Type 0} (Q : Grid V) (words : List ℕ) (r : ℕ) where
  kept_if : (o : Option V) (b : Bool) → (is_some o && b) ≡ is_some (cond b o None)
  kept_if None true = refl
  kept_if None false = refl
  kept_if (Some x) true = refl
  kept_if (Some x) false = refl

  pub masked_word : (present : List ℕ) → AreWordsOf (λ k. is_some (cell_at Q r k)) Q.side present → (number word place : ℕ) → number < length present → place ≡ r * length present + number → word ≡ bit_and (get_or present number 0) (get_or words place 0) → IsWordOf (cell_at (masked_grid Q words) r) number word
  masked_word present are number word place below at is = λ k few.
      let c = 64 * number + k in
      let here : c / 64 ≡ number = omega (arith, few) in
      let bit : c % 64 ≡ k = omega (arith, few) in
      let P = get_or present number 0 in
      let W = get_or words place 0 in
      let first : r * word_count Q.side + c / 64 ≡ place = ap (λ n. r * word_count Q.side + n) here ∙ ap (λ n. r * n + number) (sym are.count) ∙ sym at in
      let kept = keeps-word Q.side words r c (omega (arith, here, below, are.count))
      ∙ ap (λ n. is_bit_set (get_or words n 0) (c % 64)) first
      ∙ ap (is_bit_set W) bit in
      ap (λ w. is_bit_set w k) is
      ∙ is_and P W k
      ∙ ap (λ b. b && is_bit_set W k) (word_in (cell_at Q r) Q.side present are number P below refl k few)
      ∙ kept_if (cell_at Q r c) (is_bit_set W k)
      ∙ ap (λ b. is_some (cond b (cell_at Q r c) None)) (sym kept)
      ∙ ap is_some (sym (cell_at-masked Q words r c))

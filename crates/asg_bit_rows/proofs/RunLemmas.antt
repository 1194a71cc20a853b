-- Columns side by side of a row of bits, set or cleared word by word.
use Rattle.asg_bit_rows.proofs.Common.{◌≡◌, ℕ, ◌+◌, ◌-◌, ◌*◌, ◌/◌, ◌%◌, ◌<◌, ◌≤◌, Bool, true, false, cond, not, ◌&&◌, eqb, ◌↔◌, List, get_or, IsTrue, sym, refl, ap, ◌∙◌, ⊎_elim, arith, eq-eqb, ne_eqb, eqb-true, and_from, and_parts, bit_at, cases_Bool, cases_eq, cases_lt, cond-false, cond-true, false_from_ne_true, false≢true, BitTable, word_count, is_bit_set, has_bit, is_from_to, IsBitTable, PutsWord, PutsColumns, PutsOnly, AreWordsOf, HasBit, place_hit, place_missed, bit_of, of_bit, same_bool, bit_in_row, in_run, run_parts, out_of_run}

-- the words before one were written, and now this one is
module _ (B now after : BitTable) (r from to number word : ℕ) (is_set : Bool) (done : (d : ℕ) → from ≤ d → d < to → d / 64 < number → has_bit now r d ≡ is_set) (kept : (s d : ℕ) → (s ≡ r → from ≤ d → d < to → d / 64 < number → ⊥) → has_bit now s d ≡ has_bit B s d) (word_is : (k : ℕ) → k < 64 → is_bit_set word k ≡ cond (is_from_to (from - 64 * number) (to - 64 * number) k) is_set (has_bit now r (64 * number + k))) (puts : PutsWord now after r number word) where
  abbrev in_word : ℕ → Bool
  in_word d = is_from_to (from - 64 * number) (to - 64 * number) (d % 64)

  here : (d : ℕ) → d / 64 ≡ number → has_bit after r d ≡ cond (in_word d) is_set (has_bit now r d)
  here d at =
      let place : 64 * number + d % 64 ≡ d = omega (arith, at) in
      puts.bits r d
      ∙ place_hit r r (d / 64) number (is_bit_set word (d % 64)) (has_bit now r d) refl at
      ∙ word_is (d % 64) (omega arith)
      ∙ ap (λ n. cond (in_word d) is_set (has_bit now r n)) place

  elsewhere : (s d : ℕ) → (s ≡ r → d / 64 ≡ number → ⊥) → has_bit after s d ≡ has_bit now s d
  elsewhere s d other = puts.bits s d ∙ place_missed s r (d / 64) number (is_bit_set word (d % 64)) (has_bit now s d) other

  pub done_next : (d : ℕ) → from ≤ d → d < to → d / 64 < number + 1 → has_bit after r d ≡ is_set
  done_next d low high below =
      ⊎_elim
      (λ (at : d / 64 ≡ number).
      here d at
      ∙ cond-true (in_word d) is_set (has_bit now r d)
      (in_run (from - 64 * number) (to - 64 * number) (d % 64) (omega (arith, at, low)) (omega (arith, at, high))))
      (λ other. elsewhere r d (λ _ at. other at) ∙ done d low high (omega (arith, below, other)))
      (cases_eq (d / 64) number)

  pub kept_next : (s d : ℕ) → (s ≡ r → from ≤ d → d < to → d / 64 < number + 1 → ⊥) → has_bit after s d ≡ has_bit B s d
  kept_next s d none =
      ⊎_elim
      (λ (row : s ≡ r).
      ⊎_elim
      (λ (at : d / 64 ≡ number).
      let out = out_of_run (from - 64 * number) (to - 64 * number) (d % 64) (λ l h. none row (omega (arith, at, l)) (omega (arith, at, h)) (omega (arith, at))) in
      ap (λ q. has_bit after q d) row
      ∙ here d at
      ∙ cond-false (in_word d) is_set (has_bit now r d) out
      ∙ ap (λ q. has_bit now q d) (sym row)
      ∙ kept s d (λ _ _ _ less. omega (arith, at, less)))
      (λ other. elsewhere s d (λ _ at. other at) ∙ kept s d (λ e l h less. none e l h (omega (arith, less))))
      (cases_eq (d / 64) number))
      (λ other. elsewhere s d (λ e _. other e) ∙ kept s d (λ e l h less. other e))
      (cases_eq s r)

-- all words that the columns stand in were written
pub puts_columns : (B after : BitTable) (r from to number : ℕ) (is_set : Bool) → word_count to ≤ number → after.rows ≡ B.rows → after.columns ≡ B.columns → ((d : ℕ) → from ≤ d → d < to → d / 64 < number → has_bit after r d ≡ is_set) → ((s d : ℕ) → (s ≡ r → from ≤ d → d < to → d / 64 < number → ⊥) → has_bit after s d ≡ has_bit B s d) → PutsColumns B after r from to is_set
puts_columns B after r from to number is_set all rows columns done kept = record {
  rows = rows;
  columns = columns;
  bits = λ s d.
      ⊎_elim
      (λ (e : (eqb s r && is_from_to from to d) ≡ true).
      let parts = and_parts (eqb s r) (is_from_to from to d) e in
      let run = run_parts from to d parts.1 in
      ap (λ q. has_bit after q d) (eqb-true s r parts.0)
      ∙ done d run.0 run.1 (omega (arith, run.1, all))
      ∙ sym (cond-true (eqb s r && is_from_to from to d) is_set (has_bit B s d) e))
      (λ (e : (eqb s r && is_from_to from to d) ≡ false).
      kept s d (λ row low high _. false≢true (sym e ∙ and_from (eqb s r) (is_from_to from to d) (eq-eqb s r row) (in_run from to d low high)))
      ∙ sym (cond-false (eqb s r && is_from_to from to d) is_set (has_bit B s d) e))
      (cases_Bool (eqb s r && is_from_to from to d));
}

-- a row was cleared, and then some columns were set
pub puts_only : (B mid after : BitTable) (r from to : ℕ) → IsBitTable B → PutsColumns B mid r 0 B.columns false → PutsColumns mid after r from to true → PutsOnly B after r from to
puts_only B mid after r from to table cleared put = record {
  rows = put.rows ∙ cleared.rows;
  columns = put.columns ∙ cleared.columns;
  bits = λ s d.
      put.bits s d
      ∙ ⊎_elim
      (λ (row : eqb s r ≡ true).
      ap (λ t. cond (t && is_from_to from to d) true (has_bit mid s d)) row
      ∙ set_or_clear (is_from_to from to d) (has_bit mid s d)
      (cleared.bits s d ∙ ap (λ t. cond (t && is_from_to 0 B.columns d) false (has_bit B s d)) row ∙ gone s d)
      ∙ sym (ap (λ t. cond t (is_from_to from to d) (has_bit B s d)) row))
      (λ (other : eqb s r ≡ false).
      ap (λ t. cond (t && is_from_to from to d) true (has_bit mid s d)) other
      ∙ cleared.bits s d
      ∙ ap (λ t. cond (t && is_from_to 0 B.columns d) false (has_bit B s d)) other
      ∙ sym (ap (λ t. cond t (is_from_to from to d) (has_bit B s d)) other))
      (cases_Bool (eqb s r));
}
  where
    set_or_clear : (b m : Bool) → m ≡ false → cond b true m ≡ b
    set_or_clear true m e = refl
    set_or_clear false m e = e

    gone : (s d : ℕ) → cond (is_from_to 0 B.columns d) false (has_bit B s d) ≡ false
    gone s d =
        ⊎_elim
        (λ (e : is_from_to 0 B.columns d ≡ true). cond-true (is_from_to 0 B.columns d) false (has_bit B s d) e)
        (λ (e : is_from_to 0 B.columns d ≡ false).
        cond-false (is_from_to 0 B.columns d) false (has_bit B s d) e
        ∙ false_from_ne_true (has_bit B s d) (λ is. let inside = table.inside s d is in false≢true (sym e ∙ in_run 0 B.columns d (omega arith) inside.1)))
        (cases_Bool (is_from_to 0 B.columns d))

-- a bit of one of the columns, and one of another row
module _ {B after : BitTable} {r from to : ℕ} {is_set : Bool} (puts : PutsColumns B after r from to is_set) where
  pub put_in : (s d : ℕ) → s ≡ r → from ≤ d → d < to → has_bit after s d ≡ is_set
  put_in s d row low high =
      puts.bits s d
      ∙ cond-true (eqb s r && is_from_to from to d) is_set (has_bit B s d) (and_from (eqb s r) (is_from_to from to d) (eq-eqb s r row) (in_run from to d low high))

  pub put_beside : (s d : ℕ) → (s ≡ r → ⊥) → has_bit after s d ≡ has_bit B s d
  put_beside s d other = puts.bits s d ∙ ap (λ t. cond (t && is_from_to from to d) is_set (has_bit B s d)) (ne_eqb s r other)

-- the bits of a word below one place that aren't below another
pub between_bits : (from to upto before k : ℕ) → k < 64 → HasBit upto k ↔ ((k < to) × (k < 64)) → HasBit before k ↔ ((k < from) × (k < 64)) → (is_bit_set upto k && not (is_bit_set before k)) ≡ is_from_to from to k
between_bits from to upto before k h low high =
    same_bool (is_bit_set upto k && not (is_bit_set before k)) (is_from_to from to k)
    (λ e.
    let both = and_parts (is_bit_set upto k) (not (is_bit_set before k)) e in
    let below = low.0 (bit_of (bit_at upto k) both.0) in
    let since : from ≤ k = ⊎_elim
    (λ (less : k < from). absurd (false≢true (sym (ap not (of_bit (bit_at before k) (high.1 (less, h)))) ∙ both.1)))
    (λ (more : from ≤ k). more)
    (cases_lt k from) in
    in_run from to k since below.0)
    (λ e.
    let run = run_parts from to k e in
    and_from (is_bit_set upto k) (not (is_bit_set before k)) (of_bit (bit_at upto k) (low.1 (run.1, h)))
    (ap not (false_from_ne_true (is_bit_set before k) (λ is. let less = (high.0 (bit_of (bit_at before k) is)).0 in omega (arith, less, run.0)))))

-- a bit that is cleared where another is set
pub cleared_bit : (x y b : Bool) → b ≡ false → (x && not y) ≡ cond y b x
cleared_bit true true b e = sym e
cleared_bit false true b e = sym e
cleared_bit true false b e = refl
cleared_bit false false b e = refl

-- a word that is written has no bit past the last column
pub word_inside : (now : BitTable) (r from to number word : ℕ) (is_set : Bool) → IsBitTable now → to ≤ now.columns → ((k : ℕ) → k < 64 → is_bit_set word k ≡ cond (is_from_to (from - 64 * number) (to - 64 * number) k) is_set (has_bit now r (64 * number + k))) → (k : ℕ) → k < 64 → IsTrue (is_bit_set word k) → 64 * number + k < now.columns
word_inside now r from to number word is_set table few word_is k h is =
    let test = is_from_to (from - 64 * number) (to - 64 * number) k in
    ⊎_elim
    (λ (e : test ≡ true). let run = run_parts (from - 64 * number) (to - 64 * number) k e in omega (arith, run.1, few))
    (λ (e : test ≡ false). (table.inside r (64 * number + k) (sym (cond-false test is_set (has_bit now r (64 * number + k)) e) ∙ sym (word_is k h) ∙ is)).1)
    (cases_Bool test)

-- the word that is written, by its bits
pub written_word : (now : BitTable) (r from to number low bits word : ℕ) (is_set : Bool) (words : List ℕ) → ((k : ℕ) → k < 64 → is_bit_set word k ≡ cond (is_bit_set bits k) is_set (is_bit_set (get_or words number 0) k)) → ((k : ℕ) → k < 64 → is_bit_set bits k ≡ is_from_to low (to - 64 * number) k) → low ≡ from - 64 * number → AreWordsOf (has_bit now r) now.columns words → number < word_count now.columns → (k : ℕ) → k < 64 → is_bit_set word k ≡ cond (is_from_to (from - 64 * number) (to - 64 * number) k) is_set (has_bit now r (64 * number + k))
written_word now r from to number low bits word is_set words word_is bits_are low_is are below k h =
    word_is k h
    ∙ ap (λ b. cond b is_set (is_bit_set (get_or words number 0) k)) (bits_are k h ∙ ap (λ n. is_from_to n (to - 64 * number) k) low_is)
    ∙ ap (cond (is_from_to (from - 64 * number) (to - 64 * number) k) is_set) (bit_in_row (has_bit now r) now.columns words number k are below h)

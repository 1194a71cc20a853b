-- The bits of words as tests, and those of a row by the words that hold them.
use Rattle.std.proofs.Common.{◌≡◌, ℕ, ◌+◌, ◌*◌, ◌/◌, ◌%◌, ◌^◌, ◌<◌, ◌≤◌, Bool, true, false, not, ◌&&◌, cond, leb, ltb, refl, List, get_or, sym, ◌∙◌, ap, arith, ⊎_elim, w64}
use Rattle.std.specs.Prelude.{bit_and, bit_or, ◌==◌}
use Rattle.std.specs.Int.{bit_at, bit_not}
use Rattle.std.proofs.lemmas.Bool.{and_from, and_parts, and_right, eqb-true, eq-eqb, ne_eqb, cases_eq, leb-true, ltb-true, le-leb, lt-ltb, false_from_ne_true}
use Rattle.std.proofs.lemmas.Bool.Decides.{Decides-eqb}
use Rattle.std.proofs.lemmas.Nat.Bits.{bit_at-lt, bit_at_and, bit_at_or, bit_at_not}
use Rattle.asg_bit_rows.specs.BitTable.{word_count, is_bit_set, is_from_to, AreWordsOf}
use Rattle.asg_bit_rows.specs.laws.Bits.{HasBit-and}

pub bit_of : (n : ℕ) → (n == 1) ≡ true → n ≡ 1
bit_of n e = eqb-true n 1 e

pub of_bit : (n : ℕ) → n ≡ 1 → (n == 1) ≡ true
of_bit n e = (Decides-eqb n 1).1 e

pub same_bool : (a b : Bool) → (a ≡ true → b ≡ true) → (b ≡ true → a ≡ true) → a ≡ b
same_bool true true f g = refl
same_bool true false f g = sym (f refl)
same_bool false true f g = g refl
same_bool false false f g = refl

-- a bit of two words
pub is_and : (a b k : ℕ) → is_bit_set (bit_and a b) k ≡ (is_bit_set a k && is_bit_set b k)
is_and a b k =
    same_bool (is_bit_set (bit_and a b) k) (is_bit_set a k && is_bit_set b k)
    (λ e. let h = (HasBit-and a b k).0 (bit_of (bit_at (bit_and a b) k) e) in and_from (is_bit_set a k) (is_bit_set b k) (of_bit (bit_at a k) h.0) (of_bit (bit_at b k) h.1))
    (λ e. let h = and_parts (is_bit_set a k) (is_bit_set b k) e in of_bit (bit_at (bit_and a b) k) ((HasBit-and a b k).1 (bit_of (bit_at a k) h.0, bit_of (bit_at b k) h.1)))

-- a bit of a row by its word and its place in it
pub bit_in_row : (has : ℕ → Bool) (columns : ℕ) (words : List ℕ) (number k : ℕ) → AreWordsOf has columns words → number < word_count columns → k < 64 → is_bit_set (get_or words number 0) k ≡ has (64 * number + k)
bit_in_row has columns words number k are below h =
    let word : (64 * number + k) / 64 ≡ number = omega arith in
    let bit : (64 * number + k) % 64 ≡ k = omega arith in
    sym (ap (λ i. is_bit_set (get_or words i 0) k) word)
    ∙ sym (ap (λ i. is_bit_set (get_or words ((64 * number + k) / 64) 0) i) bit)
    ∙ are.each (64 * number + k) (omega (arith, are.count, below, h))

and_true : (x : Bool) → (x && true) ≡ x
and_true true = refl
and_true false = refl

-- a bit of a word without the bits of another
pub is_without : (a b k : ℕ) → b < 2 ^ 64 → k < 64 → is_bit_set (bit_and a (bit_not w64 b)) k ≡ (is_bit_set a k && not (is_bit_set b k))
is_without a b k fits h =
    let both = bit_at_and a (bit_not w64 b) k in
    let turned = bit_at_not w64 b k fits h in
    let low = bit_at-lt a k in
    let other = bit_at-lt b k in
    ⊎_elim
    (λ (has : bit_at b k ≡ 1).
    ne_eqb (bit_at (bit_and a (bit_not w64 b)) k) 1 (λ e. omega (arith, both, turned, has, e))
    ∙ sym (and_right (is_bit_set a k) (not (is_bit_set b k)) (ap not (eq-eqb (bit_at b k) 1 has))))
    (λ lacks.
    let same : bit_at (bit_and a (bit_not w64 b)) k ≡ bit_at a k = omega (arith, both, turned, low, other, lacks) in
    ap (λ n. n == 1) same
    ∙ sym (ap (λ x. is_bit_set a k && not x) (ne_eqb (bit_at b k) 1 lacks) ∙ and_true (is_bit_set a k)))
    (cases_eq (bit_at b k) 1)

-- a bit of a word with the bits of another
pub is_with : (a b k : ℕ) → is_bit_set (bit_or a b) k ≡ cond (is_bit_set b k) true (is_bit_set a k)
is_with a b k =
    let both = bit_at_or a b k in
    let low = bit_at-lt a k in
    let other = bit_at-lt b k in
    ⊎_elim
    (λ (has : bit_at b k ≡ 1).
    let same : bit_at (bit_or a b) k ≡ 1 = omega (arith, both, low, has) in
    eq-eqb (bit_at (bit_or a b) k) 1 same
    ∙ sym (ap (λ x. cond x true (is_bit_set a k)) (eq-eqb (bit_at b k) 1 has)))
    (λ lacks.
    let same : bit_at (bit_or a b) k ≡ bit_at a k = omega (arith, both, low, other, lacks) in
    ap (λ n. n == 1) same
    ∙ sym (ap (λ x. cond x true (is_bit_set a k)) (ne_eqb (bit_at b k) 1 lacks)))
    (cases_eq (bit_at b k) 1)

-- ---- the columns from one on and before another

pub in_run : (from to c : ℕ) → from ≤ c → c < to → is_from_to from to c ≡ true
in_run from to c l h = and_from (leb from c) (ltb c to) (le-leb from c l) (lt-ltb c to h)

pub run_parts : (from to c : ℕ) → is_from_to from to c ≡ true → (from ≤ c) × (c < to)
run_parts from to c e = let both = and_parts (leb from c) (ltb c to) e in (leb-true from c both.0, ltb-true c to both.1)

pub out_of_run : (from to c : ℕ) → (from ≤ c → c < to → ⊥) → is_from_to from to c ≡ false
out_of_run from to c none =
    false_from_ne_true (is_from_to from to c) (λ e. let both = run_parts from to c e in none both.0 both.1)

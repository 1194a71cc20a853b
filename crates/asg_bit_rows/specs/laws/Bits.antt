-- One bit of a word, set and taken out; a bit of two words.
use Rattle.std.proofs.Common.{◌≡◌, ◌≢◌, ℕ, ◌*◌, ◌^◌, ◌%◌, ◌<◌, ◌⊎◌, inl, inr, ⊎_elim, sym, ◌∙◌, ap, arith, w64, ◌↔◌}
use Rattle.std.specs.Prelude.{bit_and, bit_or}
use Rattle.std.specs.Int.{bit_at, bit_not, trailing_zeros}
use Rattle.std.proofs.lemmas.Bool.{cases_eq, cases_lt}
use Rattle.std.proofs.lemmas.Nat.{and_le_l}
use Rattle.std.proofs.lemmas.Nat.Bits.{bit_at-lt, bit_at-zero, bit_at_and, bit_at_or, bit_at_above, bit_at-trailing_zeros, bit_at_set_same, bit_at_set_other, bit_at_clear_same, bit_at_clear_other}
use Rattle.asg_bit_rows.specs.WordBits.{HasBit}

-- the word with one more bit, and the word without one
abbrev pub with_bit : ℕ → ℕ → ℕ
with_bit n k = bit_or n (1 * 2 ^ k % 2 ^ 64)

abbrev pub without_bit : ℕ → ℕ → ℕ
without_bit n k = bit_and n (bit_not w64 (1 * 2 ^ k % 2 ^ 64))

-- no word of 64 bits has a bit past the last
pub bit_below : (n k : ℕ) → n < 2 ^ 64 → HasBit n k → k < 64
bit_below n k h has =
    ⊎_elim (λ b. b) (λ b. let none = bit_at_above n 64 k h b in absurd (omega (arith, none, has))) (cases_lt k 64)

pub HasBit-zero : (k : ℕ) → HasBit 0 k → ⊥
HasBit-zero k has = let none = bit_at-zero k in omega (arith, none, has)

-- a word that isn't zero has the bit that is counted to
pub HasBit-trailing_zeros : (n : ℕ) → 0 < n → n < 2 ^ 64 → HasBit n (trailing_zeros w64 n)
HasBit-trailing_zeros n some h = (bit_at-trailing_zeros w64 n some h).1

pub HasBit-without : (n k i : ℕ) → k < 64 → HasBit (without_bit n k) i → HasBit n i × (i ≢ k)
HasBit-without n k i h has =
    let both = bit_at_and n (bit_not w64 (1 * 2 ^ k % 2 ^ 64)) i in
    let one = bit_at-lt n i in
    let gone = bit_at_clear_same w64 n k h in (
      omega (arith, both, one, has),
      λ e. let moved : bit_at (without_bit n k) i ≡ bit_at (without_bit n k) k = ap (bit_at (without_bit n k)) e in omega (arith, moved, gone, has),
    )

pub HasBit-without_other : (n k i : ℕ) → k < 64 → i < 64 → HasBit n i → i ≢ k → HasBit (without_bit n k) i
HasBit-without_other n k i h within has other = bit_at_clear_other w64 n k h i within other ∙ has

-- a word without one of its bits is less
pub without_bit-lt : (n k : ℕ) → k < 64 → HasBit n k → without_bit n k < n
without_bit-lt n k h has =
    let upto = and_le_l n (bit_not w64 (1 * 2 ^ k % 2 ^ 64)) in
    let gone = bit_at_clear_same w64 n k h in
    let differ : without_bit n k ≢ n = λ e. let moved : bit_at (without_bit n k) k ≡ bit_at n k = ap (λ m. bit_at m k) e in omega (arith, moved, gone, has) in
    ⊎_elim (λ less. less) (λ more. let e : without_bit n k ≡ n = omega (arith, upto, more) in absurd (differ e)) (cases_lt (without_bit n k) n)

pub HasBit-with : (n k i : ℕ) → k < 64 → HasBit (with_bit n k) i → HasBit n i ⊎ (i ≡ k)
HasBit-with n k i h has =
    ⊎_elim inr (λ other. inl (sym (bit_at_set_other w64 n k h i other) ∙ has)) (cases_eq i k)

pub HasBit-with_same : (n k : ℕ) → k < 64 → HasBit (with_bit n k) k
HasBit-with_same n k h = bit_at_set_same w64 n k h

pub HasBit-with_kept : (n k i : ℕ) → k < 64 → HasBit n i → HasBit (with_bit n k) i
HasBit-with_kept n k i h has =
    ⊎_elim (λ e. ap (bit_at (with_bit n k)) e ∙ HasBit-with_same n k h) (λ other. bit_at_set_other w64 n k h i other ∙ has) (cases_eq i k)

-- a bit of two words at once, and of one of them
pub HasBit-and : (a b k : ℕ) → HasBit (bit_and a b) k ↔ (HasBit a k × HasBit b k)
HasBit-and a b k =
    let both = bit_at_and a b k in
    let one = bit_at-lt a k in
    let two = bit_at-lt b k in (
      λ has. (omega (arith, both, one, two, has), omega (arith, both, one, two, has)),
      λ h. omega (arith, both, h.0, h.1),
    )

pub HasBit-or : (a b k : ℕ) → HasBit (bit_or a b) k ↔ (HasBit a k ⊎ HasBit b k)
HasBit-or a b k =
    let both = bit_at_or a b k in
    let one = bit_at-lt a k in
    let two = bit_at-lt b k in (
      λ has. ⊎_elim (λ h. inl h) (λ other. inr (omega (arith, both, one, two, has, other))) (cases_eq (bit_at a k) 1),
      λ h. ⊎_elim (λ x. omega (arith, both, x, two)) (λ y. omega (arith, both, y, one)) h,
    )

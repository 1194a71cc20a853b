-- Columns of sets, word by word and bit by bit.
use Rattle.std.proofs.Common.{◌≡◌, ◌↔◌, ◌⊎◌, inl, inr, ℕ, ◌+◌, ◌*◌, ◌/◌, ◌%◌, ◌<◌, ◌≤◌, ◌^◌, List, length, get_or, sym, ◌∙◌, ap, subst, arith, ⊎_elim, w64, Fits}
use Rattle.std.specs.Prelude.{bit_and, bit_or}
use Rattle.std.specs.Int.{bit_at, bit_not, trailing_zeros}
use Rattle.std.proofs.Math.Facts.{Fits-lt-pow}
use Rattle.std.proofs.lemmas.Bool.{cases_eq, cases_lt}
use Rattle.std.proofs.lemmas.List.{get_or_past}
use Rattle.std.proofs.lemmas.Nat.Bits.{bit_at-lt, bit_at_and, bit_at_or, bit_at_not}
use Rattle.asg_match.specs.ColumnSet.{HasBit, HasColumn}
use Rattle.asg_bit_rows.specs.laws.Bits.{with_bit, without_bit, bit_below, HasBit-zero, HasBit-with, HasBit-with_same, HasBit-with_kept, HasBit-without, HasBit-without_other, HasBit-trailing_zeros, without_bit-lt}

-- a bit is set, or it isn't
pub cases_column : (words : List ℕ) (k : ℕ) → HasColumn words k ⊎ (HasColumn words k → ⊥)
cases_column words k = cases_eq (bit_at (get_or words (k / 64) 0) (k % 64)) 1

-- a column of a set stands in one of its words
pub column_word : (words : List ℕ) (k n : ℕ) → HasColumn words k → length words ≤ n → k / 64 < n
column_word words k n has h =
    ⊎_elim
    (λ within. omega (arith, within))
    (λ past. absurd (HasBit-zero (k % 64) (sym (ap (λ w. bit_at w (k % 64)) (get_or_past words (k / 64) 0 past)) ∙ has)))
    (cases_lt (k / 64) (length words))

-- a bit of a word that the word of those that may be less, or aren't known, leaves out
pub left_out : (offered lesser known i : ℕ) → i < 64 → Fits w64 known → HasBit offered i → (HasBit (bit_and offered (bit_or lesser (bit_not w64 known))) i → ⊥) → HasBit known i × (HasBit lesser i → ⊥)
left_out offered lesser known i h fits has none =
    let both = bit_at_and offered (bit_or lesser (bit_not w64 known)) i in
    let either = bit_at_or lesser (bit_not w64 known) i in
    let unknown = bit_at_not w64 known i (Fits-lt-pow fits) h in (
      ⊎_elim
          (λ is. is)
          (λ other. absurd (none (omega (arith, both, either, unknown, has, other, bit_at-lt known i, bit_at-lt lesser i))))
          (cases_eq (bit_at known i) 1),
      λ less. none (omega (arith, both, either, less, has, bit_at-lt (bit_not w64 known) i)),
    )

-- a column whose bit a word of a set has
pub column_in : (words : List ℕ) (number k : ℕ) → k / 64 ≡ number → HasBit (get_or words number 0) (k % 64) → HasColumn words k
column_in words number k here has = ap (λ i. bit_at (get_or words i 0) (k % 64)) here ∙ has

pub bit_in : (words : List ℕ) (number k : ℕ) → k / 64 ≡ number → HasColumn words k → HasBit (get_or words number 0) (k % 64)
bit_in words number k here has = ap (λ i. bit_at (get_or words i 0) (k % 64)) (sym here) ∙ has

-- the bits of the rest are columns of a set, in the word of this number
abbrev pub IsAmong : ℕ → ℕ → List ℕ → Type 0
IsAmong rest number words = (i : ℕ) → HasBit rest i → HasBit (get_or words number 0) i

-- the next bit of the rest: its column, and the rest without it
module _ (number rest : ℕ) (some : rest ≡ 0 → ⊥) (fits : Fits w64 rest) where
  positive : 0 < rest
  positive = omega (arith, some)

  below_power : rest < 2 ^ 64
  below_power = Fits-lt-pow fits

  abbrev pub next_bit : ℕ
  next_bit = trailing_zeros w64 rest

  abbrev pub next_column : ℕ
  next_column = 64 * number + next_bit

  pub next_has : HasBit rest next_bit
  next_has = HasBit-trailing_zeros rest positive below_power

  pub next_below : next_bit < 64
  next_below = bit_below rest next_bit below_power next_has

  pub next_place : next_column % 64 ≡ next_bit
  next_place = let h = next_below in omega arith

  -- the bits of a word with that of the next column
  pub next_more : (word i : ℕ) → HasBit (with_bit word next_bit) i ↔ (HasBit word i ⊎ (i ≡ next_column % 64))
  next_more word i =
      let h = next_below in (
        λ has. ⊎_elim (λ old. inl old) (λ e. inr (e ∙ sym next_place)) (HasBit-with word next_bit i h has),
        λ either.
            ⊎_elim
            (λ old. HasBit-with_kept word next_bit i h old)
            (λ e. subst (HasBit (with_bit word next_bit)) (sym (e ∙ next_place)) (HasBit-with_same word next_bit h))
            either,
      )

  pub next_smaller : without_bit rest next_bit < rest
  next_smaller = without_bit-lt rest next_bit next_below next_has

  -- a column whose bit leaves the rest is the next one
  pub next_cases : (k : ℕ) → k / 64 ≡ number → (HasBit (without_bit rest next_bit) (k % 64) → ⊥) → (HasBit rest (k % 64) → ⊥) ⊎ (k ≡ next_column)
  next_cases k here none =
      let h = next_below in
      ⊎_elim
      (λ has.
      ⊎_elim
      (λ same. inr (omega (arith, same, here)))
      (λ other. absurd (none (HasBit-without_other rest next_bit (k % 64) next_below (omega arith) has other)))
      (cases_eq (k % 64) next_bit))
      (λ not_there. inl not_there)
      (cases_eq (bit_at rest (k % 64)) 1)

  pub next_kept : (k : ℕ) → (HasBit rest (k % 64) → ⊥) → HasBit (without_bit rest next_bit) (k % 64) → ⊥
  next_kept k none has = none (HasBit-without rest next_bit (k % 64) next_below has).0

  pub next_gone : (k : ℕ) → k ≡ next_column → HasBit (without_bit rest next_bit) (k % 64) → ⊥
  next_gone k e has = (HasBit-without rest next_bit (k % 64) next_below has).1 (ap (λ n. n % 64) e ∙ next_place)

  pub next_there : (k : ℕ) → k ≡ next_column → HasBit rest (k % 64)
  next_there k e = subst (HasBit rest) (sym (ap (λ n. n % 64) e ∙ next_place)) next_has

  pub next_word : next_column / 64 ≡ number
  next_word = let h = next_below in omega arith

  pub next_in : (words : List ℕ) → IsAmong rest number words → HasColumn words next_column
  next_in words among = column_in words number next_column next_word (subst (HasBit (get_or words number 0)) (sym next_place) (among next_bit next_has))

  pub next_among : (words : List ℕ) → IsAmong rest number words → IsAmong (without_bit rest next_bit) number words
  next_among words among i has = among i (HasBit-without rest next_bit i next_below has).0

  -- the next column is below the side
  pub next_under : (words : List ℕ) (side : ℕ) → IsAmong rest number words → ((k : ℕ) → HasColumn words k → k < side) → next_column < side
  next_under words side among below = below next_column (next_in words among)

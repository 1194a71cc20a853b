-- The bits of a word of 64, taken out one after the other from the lowest on.
use Rattle.std.proofs.Common.{◌≡◌, ⊎_elim, ℕ, ◌^◌, ◌<◌, w64}
use Rattle.std.specs.Int.{trailing_zeros}
use Rattle.std.proofs.lemmas.Bool.{cases_eq}
use Rattle.asg_bit_rows.specs.WordBits.{HasBit}
use Rattle.asg_bit_rows.specs.laws.Bits.{HasBit-trailing_zeros, HasBit-without, HasBit-without_other, bit_below, without_bit, without_bit-lt}

-- the lowest bit of what is left of a word, and what is left after it
module _ (rest : ℕ) (some : 0 < rest) (fits : rest < 2 ^ 64) where
  abbrev pub next_bit : ℕ
  next_bit = trailing_zeros w64 rest

  pub next_has : HasBit rest next_bit
  next_has = HasBit-trailing_zeros rest some fits

  pub next_below : next_bit < 64
  next_below = bit_below rest next_bit fits next_has

  -- a bit that is left after it was left before
  pub next_kept : (i : ℕ) → HasBit (without_bit rest next_bit) i → HasBit rest i
  next_kept i has = (HasBit-without rest next_bit i next_below has).0

  -- a bit that is left no more is the lowest one
  pub next_gone : (i : ℕ) → HasBit rest i → (HasBit (without_bit rest next_bit) i → ⊥) → i ≡ next_bit
  next_gone i has none =
      ⊎_elim (λ same. same) (λ other. absurd (none (HasBit-without_other rest next_bit i next_below (bit_below rest i fits has) has other))) (cases_eq i next_bit)

  pub next_smaller : without_bit rest next_bit < rest
  next_smaller = without_bit-lt rest next_bit next_below next_has

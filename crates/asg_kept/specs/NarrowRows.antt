-- Rows of a square of sums in 64 bits, compared with keys.
use Rattle.std.specs.Prelude.{◌≡◌, ℕ, ◌+◌, ◌^◌, ◌<◌, ◌↔◌, List, slice_index}
use Rattle.std.specs.Int.{bit_at}
use Rattle.asg_phase_totals.specs.Duals.{dual_bits}

-- the first so many bits of a word say at which of as many columns, from a first one on, a value
-- with a base more and the dual variable of the column less is less than the key; no other bit is
-- set
abbrev pub AreLesserBits : ℕ → List ℕ → List ℕ → List ℕ → ℕ → ℕ → ℕ → Type 0
AreLesserBits base values columns keys first count word =
    (k : ℕ) → (bit_at word k ≡ 1)
    ↔ ((k < count) × (dual_bits (2 ^ 64) base (slice_index columns (first + k)) (slice_index values (first + k))
    < slice_index keys (first + k)))

-- The bits of a word of 64.
use Rattle.std.specs.Prelude.{◌≡◌, ℕ}
use Rattle.std.specs.Int.{bit_at}

-- a word has the bit of this place
abbrev pub HasBit : ℕ → ℕ → Type 0
HasBit word k = bit_at word k ≡ 1

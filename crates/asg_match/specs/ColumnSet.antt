-- Sets of columns as words of 64 bits, the lowest bit of the first word for column 0.
use Rattle.std.specs.Prelude.{◌≡◌, ◌↔◌, ℕ, ◌+◌, ◌*◌, ◌/◌, ◌%◌, ◌<◌, List, length, slice_index}
pub use Rattle.asg_bit_rows.specs.BitTable.{word_count}
pub use Rattle.asg_bit_rows.specs.WordBits.{HasBit}

-- column c is in the set
abbrev pub HasColumn : List ℕ → ℕ → Type 0
HasColumn words c = HasBit (slice_index words (c / 64)) (c % 64)

-- a set of columns below the side
pub record IsColumnSet (side : ℕ) (words : List ℕ) : Type 0 where
  pub count : length words ≡ word_count side
  pub below : (i k : ℕ) → HasBit (slice_index words i) k → 64 * i + k < side

-- the bits of a word for the columns from 64 times its number on that are among others and allowed
-- to row r
abbrev pub AreAmong : (ℕ → ℕ → Type 0) → ℕ → ℕ → ℕ → ℕ → Type 0
AreAmong allows r number columns word =
    (k : ℕ) → HasBit word k ↔ (HasBit columns k × allows r (64 * number + k))

-- Rows of bits, in words of 64.
use Rattle.std.specs.Prelude.{◌≡◌, ℕ, ◌*◌, ◌+◌, ◌/◌, ◌%◌, ◌<◌, ◌≤◌, ◌&&◌, ◌==◌, if◌then◌else◌, nat_lt, nat_le, Bool, IsTrue, List, length, slice_index}
use Rattle.std.specs.Int.{bit_at}
use Rattle.asg_model.specs.Limits.{most_side}

-- rows of bits: how many rows and columns there are, and the words that hold them, row by row
pub record BitTable : Type 0 where
  pub rows : ℕ
  pub columns : ℕ
  pub words : List ℕ

-- the rows of bits of these words
abbrev pub bit_table : ℕ → ℕ → List ℕ → BitTable
bit_table rows columns words = record { rows = rows; columns = columns; words = words }

-- how many words of 64 bits hold so many bits
abbrev pub word_count : ℕ → ℕ
word_count columns = (columns + 63) / 64

-- a bit of a word is set
abbrev pub is_bit_set : ℕ → ℕ → Bool
is_bit_set word bit = bit_at word bit == 1

-- the bit at a row and a column is set: of the row's words, the one that holds the column
abbrev pub has_bit : BitTable → ℕ → ℕ → Bool
has_bit B r c =
    nat_lt (c / 64) (word_count B.columns) && is_bit_set (slice_index B.words (r * word_count B.columns + c / 64)) (c % 64)

-- what rows of bits keep: at most 2,000 rows and columns, and no bit set past the last row or
-- column
pub record IsBitTable (B : BitTable) : Type 0 where
  pub few_rows : B.rows ≤ most_side
  pub few_columns : B.columns ≤ most_side
  pub count : length B.words ≡ B.rows * word_count B.columns
  pub inside : (r c : ℕ) → IsTrue (has_bit B r c) → (r < B.rows) × (c < B.columns)

-- one bit was set or cleared
pub record PutsBit (B after : BitTable) (r c : ℕ) (is_set : Bool) : Type 0 where
  pub rows : after.rows ≡ B.rows
  pub columns : after.columns ≡ B.columns
  pub bits : (s d : ℕ) → has_bit after s d ≡ (if (s == r) && (d == c) then is_set else has_bit B s d)

-- the bits of one word of a row were set or cleared
pub record PutsWord (B after : BitTable) (r number word : ℕ) : Type 0 where
  pub rows : after.rows ≡ B.rows
  pub columns : after.columns ≡ B.columns
  pub bits : (s d : ℕ) → has_bit after s d ≡ (if (s == r) && (d / 64 == number) then is_bit_set word (d % 64) else has_bit B s d)

-- the words of a row: at each of their places the bit says whether the row has this column
pub record AreWordsOf (has : ℕ → Bool) (columns : ℕ) (words : List ℕ) : Type 0 where
  pub count : length words ≡ word_count columns
  pub each : (c : ℕ) → c < 64 * length words → is_bit_set (slice_index words (c / 64)) (c % 64) ≡ has c

-- a column is one of those from one on and before another
abbrev pub is_from_to : ℕ → ℕ → ℕ → Bool
is_from_to from to c = nat_le from c && nat_lt c to

-- the bits of a row at the columns from one on and before another were set or cleared
pub record PutsColumns (B after : BitTable) (r from to : ℕ) (is_set : Bool) : Type 0 where
  pub rows : after.rows ≡ B.rows
  pub columns : after.columns ≡ B.columns
  pub bits : (s d : ℕ) → has_bit after s d ≡ (if (s == r) && is_from_to from to d then is_set else has_bit B s d)

-- the bits of a row are set at the columns from one on and before another, and clear at all others
pub record PutsOnly (B after : BitTable) (r from to : ℕ) : Type 0 where
  pub rows : after.rows ≡ B.rows
  pub columns : after.columns ≡ B.columns
  pub bits : (s d : ℕ) → has_bit after s d ≡ (if s == r then is_from_to from to d else has_bit B s d)

-- Marks of lines, rows or columns, for windows.
use Rattle.std.specs.Prelude.{◌≡◌, ℕ, ◌+◌, ◌*◌, ◌/◌, ◌%◌, ◌≤◌, length, slice_index}
use Rattle.asg_bit_rows.specs.BitTable.{word_count}
use Rattle.asg_bit_rows.specs.WordBits.{HasBit}
use Rattle.asg_hall_windows.specs.declared.marks.Marks.{Marks}

-- the place of the word that says whether a line is marked for a window
abbrev pub word_place : Marks → ℕ → ℕ → ℕ
word_place marks line window = line * marks.width + window / 64

-- the line is marked for the window
abbrev pub IsMarked : Marks → ℕ → ℕ → Type 0
IsMarked marks line window =
    HasBit (slice_index marks.words.items (word_place marks line window)) (window % 64)

-- there is room for the line
abbrev pub HasLine : Marks → ℕ → Type 0
HasLine marks line = line * marks.width + marks.width ≤ length marks.words.items

-- there is room for so many lines and windows
pub record HasRoom (lines windows : ℕ) (marks : Marks) : Type 0 where
  pub width : marks.width ≡ word_count windows
  pub count : length marks.words.items ≡ lines * marks.width

-- the room stays, and no mark is taken back
pub record KeepsMarks (before after : Marks) : Type 0 where
  pub width : after.width ≡ before.width
  pub count : length after.words.items ≡ length before.words.items
  pub bits : (place k : ℕ) → HasBit (slice_index before.words.items place) k
      → HasBit (slice_index after.words.items place) k

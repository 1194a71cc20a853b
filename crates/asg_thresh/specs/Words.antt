-- Rows of bits, as words of 64.
use Rattle.std.specs.Prelude.{ℕ, ◌+◌, ◌*◌, ◌/◌, ◌%◌, ◌<◌, ◌≤◌, ◌↔◌, ◌-◌, min, List, slice_index}
use Rattle.asg_match.specs.ColumnSet.{HasBit, word_count}
use Rattle.asg_thresh.specs.Grades.{IsUpTo, grade_at}

-- row r may have column c by the words, of which each row has as many as its columns need
pub record IsMarked (words : List ℕ) (side : ℕ) (r c : ℕ) : Type 0 where
  pub row : r < side
  pub column : c < side
  pub bit : HasBit (slice_index words (r * word_count side + c / 64)) (c % 64)

-- the bits of a word are the grades of at most the limit, of a list of at most 64
abbrev pub AreBitsUpTo : List ℕ → ℕ → ℕ → ℕ → Type 0
AreBitsUpTo grades count limit word =
    (k : ℕ) → HasBit word k ↔ ((k < count) × (slice_index grades k ≤ limit))

-- the bits of a word by its place among all words: those of the cells with a grade of at most the
-- limit
pub record IsWordUpTo (grades : List ℕ) (side limit place word : ℕ) : Type 0 where
  pub bits : (k : ℕ) → HasBit word k ↔ ((k < min 64 (side - 64 * (place % word_count side))) × (grade_at grades side (place / word_count side) (64 * (place % word_count side) + k) ≤ limit))

-- the words mark exactly the cells with a grade of at most the limit
abbrev pub MarksUpTo : List ℕ → ℕ → ℕ → List ℕ → Type 0
MarksUpTo grades side limit words =
    (r c : ℕ) → IsMarked words side r c ↔ IsUpTo grades side limit r c

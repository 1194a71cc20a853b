-- Tables that are filled row by row.
use Rattle.std.specs.Prelude.{◌≡◌, ℕ, ℤ, ◌+◌, ◌/◌, ◌<◌, ◌&&◌, ◌==◌, if◌then◌else◌, Bool, IsTrue, Option, Some, None, List, length, take, drop, ◌++◌, slice_index_or}
use Rattle.asg_model.specs.Problem.{Problem}
use Rattle.asg_model.specs.Live.{is_open, live_at}
use Rattle.asg_model.specs.Table.{absent, table_cost}
use Rattle.asg_bit_rows.specs.BitTable.{is_bit_set}
use Rattle.asg_cell_tables.specs.CellTable.{piece_cell}

-- of the cells, or of what is told of each: the row at place r has this one for each column label,
-- and all other rows are as before
abbrev pub FillsRow : {A : Type 0} → ℕ → (ℕ → ℕ → A) → (ℕ → ℕ → A) → ℕ → List (Option ℕ) → (Option ℕ → A) → Type 0
FillsRow side before after r columns cell =
    (s d : ℕ) → d < side → after s d ≡ (if s == r then cell (slice_index_or columns d None) else before s d)

-- in place of 64 columns of row r, fewer at its end, those of these column labels stand, and all
-- others are as before
abbrev pub FillsPiece : {A : Type 0} → ℕ → (ℕ → ℕ → A) → (ℕ → ℕ → A) → ℕ → ℕ → List (Option ℕ) → (Option ℕ → A) → Type 0
FillsPiece side before after r number columns cell =
    (s d : ℕ) → d < side → after s d ≡ (if (s == r) && (d / 64 == number) then cell (slice_index_or columns d None) else before s d)

-- each row has this one for its label and each column label
abbrev pub AreFilled : {A : Type 0} → ℕ → (ℕ → ℕ → A) → List (Option ℕ) → List (Option ℕ) → (Option ℕ → Option ℕ → A) → Type 0
AreFilled side now rows columns cell =
    (r c : ℕ) → r < side → c < side → now r c ≡ cell (slice_index_or rows r None) (slice_index_or columns c None)

-- the costs of the live cells of the row at place r are those of these parts
abbrev pub IsLiveRow : Problem → ℕ → List ℤ → List ℤ → Type 0
IsLiveRow X r firsts seconds = (d : ℕ) → live_at X r d ≡ table_cost seconds d (slice_index_or firsts d absent)

-- all columns are open
abbrev pub AreAllOpen : Problem → Type 0
AreAllOpen X = (d : ℕ) → d < length X.columns → IsTrue (is_open X d)

-- each of the first columns is the only copy of the column at its place
abbrev pub ArePlain : ℕ → List (Option ℕ) → Type 0
ArePlain count columns = (c : ℕ) → c < count → slice_index_or columns c None ≡ Some c

-- no bit of the word is set from a count on
abbrev pub IsInside : ℕ → ℕ → Type 0
IsInside count word = (k : ℕ) → IsTrue (is_bit_set word k) → k < count

-- these are so many cells side by side, and no bit is set past them
pub record ArePieceOf {V : Type 0} (count : ℕ) (values : List V) (word : ℕ) (cell : ℕ → Option V) : Type 0 where
  pub each : (k : ℕ) → k < count → piece_cell values word k ≡ cell k
  pub inside : IsInside count word

-- the bits of a word below a count are those that pass the test, and no others are set
pub record AreBitsOf (count : ℕ) (passes : ℕ → Bool) (word : ℕ) : Type 0 where
  pub each : (k : ℕ) → k < count → is_bit_set word k ≡ passes k
  pub inside : IsInside count word

-- so many items of a list were written from a place on, of which this holds, and all others are as
-- before
pub record WritesPiece {V : Type 0} (before after : List V) (start count : ℕ) (Holds : List V → Type 0) : Type 0 where
  pub piece : List V
  pub count_is : length piece ≡ count
  pub written : after ≡ take start before ++ (piece ++ drop (start + count) before)
  pub holds : Holds piece

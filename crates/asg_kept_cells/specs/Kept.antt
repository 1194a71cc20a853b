-- Rows of bits that say which cells of a square a branch keeps.
use Rattle.std.specs.Prelude.{◌≡◌, ◌≢◌, ◌⊎◌, ℕ, ◌+◌, ◌<◌, ◌≤◌, Bool, true, IsTrue, if◌then◌else◌, IsSome, is_some, Option, Some, None, List, length, slice_index_or}
use Rattle.asg_model.specs.Live.{is_active}
use Rattle.asg_model.specs.Problem.{Problem}
use Rattle.asg_model.specs.Shapes.{square_side}
use Rattle.asg_model.specs.Sums.{count_below}
use Rattle.asg_model.specs.ValidChoice.{Chooses, takes}
use Rattle.asg_bit_rows.specs.BitTable.{BitTable, has_bit}
use Rattle.asg_square.specs.Grid.{Grid, cell_at}
use Rattle.asg_square.specs.Masked.{masked_grid}
use Rattle.asg_bit_rows.specs.WordBits.{HasBit}
use Rattle.asg_admit.specs.Reduced.{KeepsLabels}
use Rattle.asg_rankings.specs.Children.{is_kept_at, row_number}
use Rattle.asg_rankings.specs.Masks.{keeps_cell}
use Rattle.asg_kept_cells.specs.declared.masks.Front.{Front}

-- a branch keeps the cell of an active row, by its number and by what the choice gives it, in a
-- column with this label
abbrev pub keeps_label : ℕ → ℕ → Option ℕ → Option ℕ → Bool
keeps_label branch number chosen None = true
keeps_label branch number chosen (Some d) = is_kept_at branch number (takes d chosen)

-- the bits of a square of this side
pub record HasSize (side : ℕ) (bits : BitTable) : Type 0 where
  pub rows : bits.rows ≡ side
  pub columns : bits.columns ≡ side

-- the bits say which cells a branch keeps
pub record IsMaskOf (X : Problem) (f : List (Option ℕ)) (branch : ℕ) (bits : BitTable) : Type 0 where
  pub size : HasSize (square_side X) bits
  pub each : (r k : ℕ) → r < square_side X → k < square_side X → has_bit bits r k ≡ keeps_cell X f branch r k

-- the bits keep all cells of the rows that don't stand for an active row
pub record KeepsOtherRows (X : Problem) (bits : BitTable) : Type 0 where
  pub size : HasSize (square_side X) bits
  pub each : (r k : ℕ) → r < square_side X → k < square_side X → is_active X r ≢ true → IsTrue (has_bit bits r k)

-- a row, or the end of the rows, and the number of active rows before it
pub record IsFront (X : Problem) (front : Front) : Type 0 where
  pub row : front.row ≤ length X.rows
  pub number : front.number ≡ count_below (is_active X) front.row

-- the bits of one row are set where this is so of the labels of the columns; all others are as
-- before
pub record MarksRow (labels : List (Option ℕ)) (side : ℕ) (keeps : Option ℕ → Bool) (row : ℕ)
    (before after : BitTable) : Type 0 where
  pub size : HasSize side after
  pub here : (k : ℕ) → k < side → has_bit after row k ≡ keeps (slice_index_or labels k None)
  pub others : (r k : ℕ) → r ≢ row → has_bit after r k ≡ has_bit before r k

-- a row is active, and its number is one of those from one on up to another
pub record IsNumbered (X : Problem) (from to r : ℕ) : Type 0 where
  pub active : is_active X r ≡ true
  pub least : from ≤ row_number X r
  pub most : row_number X r ≤ to

-- the bits of a row, if it is active and has one of these numbers, are those that a branch keeps;
-- all others are as before
pub record MarksNumbered (X : Problem) (f labels : List (Option ℕ)) (side branch from to row : ℕ)
    (before after : BitTable) : Type 0 where
  pub size : HasSize side after
  pub marked : (k : ℕ) → k < side → IsNumbered X from to row
      → has_bit after row k ≡ keeps_label branch (row_number X row) (slice_index_or f row None) (slice_index_or labels k None)
  pub others : (r k : ℕ) → (r ≢ row) ⊎ (IsNumbered X from to row → ⊥) → has_bit after r k ≡ has_bit before r k

-- of the first so many rows the bits of those with these numbers are those that a branch keeps; all
-- others are as before
pub record MarksRows (X : Problem) (f labels : List (Option ℕ)) (side branch from to rows : ℕ)
    (before after : BitTable) : Type 0 where
  pub size : HasSize side after
  pub marked : (r k : ℕ) → r < rows → k < side → IsNumbered X from to r
      → has_bit after r k ≡ keeps_label branch (row_number X r) (slice_index_or f r None) (slice_index_or labels k None)
  pub others : (r k : ℕ) → (rows ≤ r) ⊎ (IsNumbered X from to r → ⊥) → has_bit after r k ≡ has_bit before r k

-- which cells are there and kept
abbrev pub kept_cells : {V : Type 0} → Grid V → BitTable → ℕ → ℕ → Bool
kept_cells Q kept r k = is_some (cell_at (masked_grid Q kept.words) r k)

-- a row has a kept cell in a copy of a column
pub record HasKept {V : Type 0} (Q : Grid V) (bits : List ℕ) (r d : ℕ) : Type 0 where
  pub column : ℕ
  pub within : column < Q.side
  pub label : slice_index_or Q.column_labels column None ≡ Some d
  pub kept : IsSome (cell_at (masked_grid Q bits) r column)

-- each row has a kept cell in a copy of the column that it chooses
abbrev pub ChoosesKept : {V : Type 0} → Grid V → List ℕ → List (Option ℕ) → Type 0
ChoosesKept Q bits f = (r d : ℕ) → Chooses f r d → HasKept Q bits r d

-- the cells of a row, behind a place, whose bits a word has are taken out, and all others stay
pub record TakesOutBits {V : Type 0} (row first word : ℕ) (before after : Grid V) : Type 0 where
  pub labels : KeepsLabels before after
  pub taken : (k : ℕ) → k < 64 → HasBit word k → cell_at after row (first + k) ≡ None
  pub others : (r k : ℕ) → (r ≢ row) ⊎ ((j : ℕ) → j < 64 → HasBit word j → k ≢ first + j)
      → cell_at after r k ≡ cell_at before r k

-- of the first so many cells of a row those are taken out whose bits aren't set, and all others
-- stay
pub record TakesOutRow {V : Type 0} (bits : BitTable) (row columns : ℕ) (before after : Grid V) : Type 0 where
  pub labels : KeepsLabels before after
  pub taken : (k : ℕ) → k < columns → cell_at after row k ≡ (if has_bit bits row k then cell_at before row k else None)
  pub others : (r k : ℕ) → (r ≢ row) ⊎ (columns ≤ k) → cell_at after r k ≡ cell_at before r k

-- the same of the first so many rows
pub record TakesOutRows {V : Type 0} (bits : BitTable) (rows : ℕ) (before after : Grid V) : Type 0 where
  pub labels : KeepsLabels before after
  pub taken : (r k : ℕ) → r < rows → k < before.side
      → cell_at after r k ≡ (if has_bit bits r k then cell_at before r k else None)
  pub others : (r k : ℕ) → (rows ≤ r) ⊎ (before.side ≤ k) → cell_at after r k ≡ cell_at before r k

-- the bits keep all cells
pub record KeepsAll (X : Problem) (bits : BitTable) : Type 0 where
  pub size : HasSize (square_side X) bits
  pub each : (r k : ℕ) → r < square_side X → k < square_side X → IsTrue (has_bit bits r k)

-- The live cells of a square in the order of their grades.
use Rattle.std.specs.Prelude.{◌≡◌, ◌⊎◌, ℕ, ◌<◌, ◌≤◌, Some, List, length, All, Contains, slice_index_or}
use Rattle.std.specs.List.Sorted.{IsNonDecreasingBy}
use Rattle.asg_square.specs.Grid.{Grid, cell_at}
use Rattle.asg_live_cells.specs.declared.live_cells.Entry.{Entry}

-- the entry of these parts
abbrev pub entry_of : ℕ → ℕ → ℕ → Entry
entry_of grade row column = record { grade = grade; row = row; column = column }

-- the entry at a place of a list, one of zeros past its end
abbrev pub entry_at : List Entry → ℕ → Entry
entry_at entries k = slice_index_or entries k (entry_of 0 0 0)

-- the entry is that of a live cell of the square
pub record IsEntryOf (Q : Grid ℕ) (entry : Entry) : Type 0 where
  pub row_below : entry.row < Q.side
  pub column_below : entry.column < Q.side
  pub live : 0 < entry.grade
  pub cell : cell_at Q entry.row entry.column ≡ Some entry.grade

-- the grade of the entry is under a limit
abbrev pub IsUnder : ℕ → Entry → Type 0
IsUnder limit entry = entry.grade < limit

-- a place comes before another, row by row
abbrev pub IsBefore : ℕ → ℕ → ℕ → ℕ → Type 0
IsBefore r c row column = (r < row) ⊎ ((r ≡ row) × (c < column))

-- entries of live cells with a grade under a limit, each of those before a place among them
pub record AreEntriesBefore (Q : Grid ℕ) (limit row column : ℕ) (entries : List Entry) : Type 0 where
  pub each : All (IsEntryOf Q) entries
  pub under : All (IsUnder limit) entries
  pub every : (r c grade : ℕ) → r < Q.side → c < Q.side → IsBefore r c row column → 0 < grade → grade < limit
      → cell_at Q r c ≡ Some grade → Contains entries (entry_of grade r c)

-- the entry of a place was added, where a live cell with a grade under a limit stands there; no
-- other was, and none is lost
pub record AddsEntry (Q : Grid ℕ) (limit row column : ℕ) (before after : List Entry) : Type 0 where
  pub each : All (IsEntryOf Q) before → All (IsEntryOf Q) after
  pub under : All (IsUnder limit) before → All (IsUnder limit) after
  pub kept : (entry : Entry) → Contains before entry → Contains after entry
  pub here : (grade : ℕ) → 0 < grade → grade < limit → cell_at Q row column ≡ Some grade → Contains after (entry_of grade row column)

-- the entries of all live cells with a grade under a limit, in the order of their grades
pub record AreEntriesUnder (Q : Grid ℕ) (limit : ℕ) (entries : List Entry) : Type 0 where
  pub each : All (IsEntryOf Q) entries
  pub under : All (IsUnder limit) entries
  pub every : (r c grade : ℕ) → r < Q.side → c < Q.side → 0 < grade → grade < limit
      → cell_at Q r c ≡ Some grade → Contains entries (entry_of grade r c)
  pub ascending : IsNonDecreasingBy (λ (entry : Entry). entry.grade) entries

-- the entries of all live cells, in the order of their grades
pub record AreEntries (Q : Grid ℕ) (entries : List Entry) : Type 0 where
  pub each : All (IsEntryOf Q) entries
  pub every : (r c grade : ℕ) → r < Q.side → c < Q.side → 0 < grade
      → cell_at Q r c ≡ Some grade → Contains entries (entry_of grade r c)
  pub ascending : IsNonDecreasingBy (λ (entry : Entry). entry.grade) entries

-- the grades before the place are less than the bound, those from it on aren't
pub record IsPlaceOf (entries : List Entry) (bound place : ℕ) : Type 0 where
  pub within : place ≤ length entries
  pub below : (k : ℕ) → k < place → (entry_at entries k).grade < bound
  pub from : (k : ℕ) → place ≤ k → k < length entries → bound ≤ (entry_at entries k).grade

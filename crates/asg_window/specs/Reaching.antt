-- Rows, the columns that they reach, and the next grade that helps them.
use Rattle.std.specs.Prelude.{◌≡◌, ℕ, ◌<◌, ◌≤◌, true, false, List, length, All, Contains, IsTrue, slice_index_or}
use Rattle.asg_match.specs.ColumnSet.{HasColumn, word_count}
use Rattle.asg_match.specs.Deficient.{IsColumnOf}
use Rattle.asg_bit_rows.specs.BitTable.{BitTable, has_bit}
use Rattle.asg_square.specs.Grid.{Grid}
use Rattle.asg_live_cells.specs.declared.live_cells.Entry.{Entry}
use Rattle.asg_window.specs.declared.next_grades.Reached.{Reached}
use Rattle.asg_window.specs.Bands.{IsWithin}
use Rattle.asg_live_cells.specs.LiveCells.{entry_at}

-- a mark for each row, and a bit for each column
pub record HasRoom (side : ℕ) (reached : Reached) : Type 0 where
  pub rows : length reached.rows.items ≡ side
  pub columns : length reached.columns.items ≡ word_count side

-- the row is marked
abbrev pub IsRowMarked : Reached → ℕ → Type 0
IsRowMarked reached r = slice_index_or reached.rows.items r false ≡ true

-- the rows are marked, and the columns that have a bit are columns of theirs by the marks of cells
pub record Reaches (bits : BitTable) (rows : List ℕ) (reached : Reached) : Type 0 where
  pub marked : All (IsRowMarked reached) rows
  pub columns : (c : ℕ) → HasColumn reached.columns.items c
      → IsColumnOf (λ r c. IsTrue (has_bit bits r c)) rows c

-- from a place on, each entry of a marked row with a grade below the bound has a column with a bit
abbrev pub AreReachedBelow : List Entry → ℕ → Reached → ℕ → Type 0
AreReachedBelow entries from reached bound =
    (k : ℕ) → from ≤ k → k < length entries → (entry_at entries k).grade < bound
    → IsRowMarked reached (entry_at entries k).row
    → HasColumn reached.columns.items (entry_at entries k).column

-- up to a greater upper end of the band the rows get no other column
abbrev pub GetNoColumn : Grid ℕ → ℕ → ℕ → ℕ → List ℕ → Type 0
GetNoColumn Q low high next rows =
    (r c : ℕ) → Contains rows r → IsWithin Q low next r c → IsColumnOf (IsWithin Q low high) rows c

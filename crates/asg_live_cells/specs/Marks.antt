-- Marks of cells, and those of the cells that entries name.
use Rattle.std.specs.Prelude.{◌≡◌, ◌↔◌, ◌⊎◌, ℕ, ◌<◌, ◌≤◌, List, IsTrue}
use Rattle.asg_bit_rows.specs.BitTable.{BitTable, has_bit}
use Rattle.asg_live_cells.specs.declared.live_cells.Entry.{Entry}
use Rattle.asg_live_cells.specs.LiveCells.{entry_at}

-- the cell of the square is marked
pub record IsMarked (bits : BitTable) (side r c : ℕ) : Type 0 where
  pub row : r < side
  pub column : c < side
  pub bit : IsTrue (has_bit bits r c)

-- an entry from one place on and before another is that of the cell
pub record IsNamed (entries : List Entry) (from to r c : ℕ) : Type 0 where
  pub place : ℕ
  pub after : from ≤ place
  pub before : place < to
  pub row : (entry_at entries place).row ≡ r
  pub column : (entry_at entries place).column ≡ c

-- the named cells are marked too
abbrev pub MarksMore : BitTable → BitTable → List Entry → ℕ → ℕ → Type 0
MarksMore before after entries from to =
    (r c : ℕ) → IsTrue (has_bit after r c) ↔ (IsTrue (has_bit before r c) ⊎ IsNamed entries from to r c)

-- the named cells are no longer marked
abbrev pub MarksFewer : BitTable → BitTable → List Entry → ℕ → ℕ → Type 0
MarksFewer before after entries from to =
    (r c : ℕ) → IsTrue (has_bit after r c) ↔ (IsTrue (has_bit before r c) × (IsNamed entries from to r c → ⊥))

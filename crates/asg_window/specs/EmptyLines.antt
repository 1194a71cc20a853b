-- Rows and columns without a marked cell.
use Rattle.std.specs.Prelude.{ℕ, ◌<◌, IsTrue}
use Rattle.asg_bit_rows.specs.BitTable.{BitTable, has_bit}

-- no cell of the row is marked
pub record IsEmptyRow (bits : BitTable) (side r : ℕ) : Type 0 where
  pub row : r < side
  pub none : (c : ℕ) → IsTrue (has_bit bits r c) → ⊥

-- no cell of the column is marked
pub record IsEmptyColumn (bits : BitTable) (side c : ℕ) : Type 0 where
  pub column : c < side
  pub none : (r : ℕ) → r < side → IsTrue (has_bit bits r c) → ⊥

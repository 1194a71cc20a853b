-- The marked cells of a square.
use Rattle.std.specs.Prelude.{◌≡◌, ◌↔◌, ℕ, Option, Some}
use Rattle.asg_bit_rows.specs.BitTable.{BitTable}
use Rattle.asg_live_cells.specs.Marks.{IsMarked}

-- exactly the cells that are 0 are marked
abbrev pub MarksZeros : ℕ → BitTable → (ℕ → ℕ → Option ℕ) → Type 0
MarksZeros side marks square = (r c : ℕ) → IsMarked marks side r c ↔ (square r c ≡ Some 0)

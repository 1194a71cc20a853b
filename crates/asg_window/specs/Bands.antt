-- The cells of a square within a band of grades, and marks for them.
use Rattle.std.specs.Prelude.{◌≡◌, ◌↔◌, ℕ, ◌<◌, ◌≤◌, Some, List, IsTrue}
use Rattle.asg_bit_rows.specs.BitTable.{BitTable, has_bit}
use Rattle.asg_square.specs.Grid.{Grid, cell_at}
use Rattle.asg_window.specs.declared.band_cells.BandCells.{BandCells}
use Rattle.asg_live_cells.specs.declared.live_cells.Entry.{Entry}
use Rattle.asg_window.specs.Grades.{no_bound}
use Rattle.asg_live_cells.specs.LiveCells.{AreEntries, IsBefore, IsPlaceOf}

-- the square has a cell there: a free one, or a live one with a grade from `low` on and below
-- `high`
pub record IsWithin (Q : Grid ℕ) (low high r c : ℕ) : Type 0 where
  pub row : r < Q.side
  pub column : c < Q.side
  pub grade : ℕ
  pub cell : cell_at Q r c ≡ Some grade
  pub inside : 0 < grade → (low ≤ grade) × (grade < high)

-- exactly the cells within the band are marked
abbrev pub MarksWithin : Grid ℕ → ℕ → ℕ → BitTable → Type 0
MarksWithin Q low high bits = (r c : ℕ) → IsTrue (has_bit bits r c) ↔ IsWithin Q low high r c

-- marks for all cells of the band between its ends, whose places are told
pub record MarksBand (Q : Grid ℕ) (cells : List Entry) (band : BandCells) : Type 0 where
  pub entries : AreEntries Q cells
  pub side : band.marks.side ≡ Q.side
  pub order : band.low ≤ band.high
  pub fits : band.high ≤ no_bound
  pub marks : MarksWithin Q band.low band.high band.marks.bits
  pub first : IsPlaceOf cells band.low band.first
  pub end : IsPlaceOf cells band.high band.end

-- the free cells before a place are marked, row by row
abbrev pub MarksFreeBefore : Grid ℕ → ℕ → ℕ → BitTable → Type 0
MarksFreeBefore Q row column bits =
    (r c : ℕ) → IsTrue (has_bit bits r c)
    ↔ ((r < Q.side) × (c < Q.side) × IsBefore r c row column × (cell_at Q r c ≡ Some 0))

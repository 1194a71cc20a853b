-- Cells by id.
use Rattle.std.specs.Prelude.{ℕ, ◌<◌, ◌^◌, List, All}

-- the ids of a row and of a column
abbrev pub IsCellOfIds : ℕ × ℕ → Type 0
IsCellOfIds cell = (cell.0 < 2 ^ 32) × (cell.1 < 2 ^ 32)

-- each cell is by id
abbrev pub AreCellIds : List (ℕ × ℕ) → Type 0
AreCellIds cells = All IsCellOfIds cells

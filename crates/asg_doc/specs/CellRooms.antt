-- Where the cells of a list stand.
use Rattle.std.specs.Prelude.{⊤, ℕ, ◌≤◌, List, take}
use Rattle.asg_doc.specs.declared.cell_lists.CellRoom.{CellRoom}
use Rattle.asg_doc.specs.declared.cell_lists.CellRoom.TheVariants.{Few, Many}
use Rattle.asg_doc.specs.CellIds.{AreCellIds}

-- the cells that stand there: the first so many of few, or all of many
abbrev pub cells_in : CellRoom → List (ℕ × ℕ)
cells_in (Few count cells) = take count cells
cells_in (Many cells) = cells.items

-- so many are no more than there is room for
abbrev pub IsCounted : CellRoom → Type 0
IsCounted (Few count cells) = count ≤ 3
IsCounted (Many cells) = ⊤

-- the room keeps that, and its cells are by id
pub record IsCellRoom (room : CellRoom) : Type 0 where
  pub counted : IsCounted room
  pub ids : AreCellIds (cells_in room)

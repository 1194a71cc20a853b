pub mod CellTable
pub mod LabelledCells
pub mod Filling
pub mod RowPieces
pub mod Changes
pub mod laws

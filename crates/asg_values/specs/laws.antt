-- Laws that upper crates cite: what an option holds, which elements of a list pass a test, what a
-- live cell has, what stands in a row of costs or in a list of its cells, which row an id names, and
-- what an edit leaves of the cells, the rows and columns, and the live costs of an instance.
pub mod Options
pub mod Elements
pub mod LiveCells
pub mod RowSlots
pub mod RowIds
pub mod RowCells
pub mod EditedShapes
pub mod LiveCosts
pub mod Passed
pub mod WrittenCells

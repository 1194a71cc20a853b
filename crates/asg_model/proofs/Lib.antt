pub mod Kit
pub mod Common
pub mod CellLists
pub mod Cells
pub mod EmptyTables
pub mod CellMaps
pub mod Tables
pub mod TableRows
pub mod ShapeLemmas
pub mod Positions
pub mod RetainedStores
pub mod RetainedLists
mod EditedTables
mod EditedInstances
mod ReadItems

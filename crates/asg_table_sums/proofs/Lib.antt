pub mod Common
mod TakenSums
mod RowSums
mod LevelLaw
mod RowCosts
mod FullColumns
mod RowLevels

pub mod Common
pub mod BlockLemmas
pub mod EightDigits
pub mod MorePlaces
pub mod WordDigits
pub mod BlockCells
pub mod BlockPairs

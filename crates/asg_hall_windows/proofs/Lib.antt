pub mod Common
pub mod MarkLemmas
pub mod StretchLemmas
pub mod CellLemmas
pub mod SpreadLemmas

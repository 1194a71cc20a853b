pub mod Common
mod GreatestLemmas
mod RowWords
pub mod TotalsLemmas
pub mod SegmentLemmas
pub mod WalkLemmas

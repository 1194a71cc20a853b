pub mod Common
mod ChildRows
pub mod RankingLaw
mod Rankings
mod TreesAreRankings
pub mod WorkedTree
pub mod TreeTops

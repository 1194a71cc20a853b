pub mod Branches
pub mod RankedSums

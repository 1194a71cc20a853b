-- What follows from the definitions, for crates above.
pub mod SplitCounts
pub mod GrowingLaws
pub mod SearchingLaws
pub mod KeyLaws
pub mod KeyStates
pub mod WordLemmas
pub mod LeadLemmas
pub mod NearestLemmas
pub mod UnderwayLaws
pub mod GrowthLaws

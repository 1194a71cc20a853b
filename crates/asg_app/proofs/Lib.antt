pub mod Common
pub mod EditEnds
pub mod Fetching
pub mod RunLemmas

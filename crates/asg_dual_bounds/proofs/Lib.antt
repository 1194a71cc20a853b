pub mod Common
mod PlaceSums
mod Answers
pub mod Splits
pub mod DualBounds
mod PlainChoices
mod AnswerSums
mod AnswerRankings
pub mod WorkedBounds
pub mod BoundLemmas
pub mod GapLemmas
pub mod TableLemmas

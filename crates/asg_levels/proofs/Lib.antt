pub mod Common
pub mod TightWords
pub mod MarkWordLemmas
pub mod FreeLemmas
pub mod FreeSteps
pub mod ListLemmas
pub mod ZeroBits
pub mod NextSteps

pub mod Common
mod PlaceLemmas
mod OfferLemmas
mod PoolLemmas
mod CutLemmas
mod CopyLemmas
mod CutWords
mod CutBranches
mod RebuildSteps
mod RebuiltNodes
mod RebuiltCalls

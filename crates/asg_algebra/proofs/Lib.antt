pub mod Common
pub mod PhaseEnds
pub mod SolvedLaws
pub mod FinishLaws
pub mod BranchLaws
pub mod BranchStarts
pub mod SolvingLaws
pub mod FoldLaws
mod TakenLaws
mod ContinuedLaws
pub mod LinePhases

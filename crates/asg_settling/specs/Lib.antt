pub mod LeftColumns
pub mod JoinedSteps

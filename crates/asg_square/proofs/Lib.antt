pub mod Common
pub mod PerfectValid
pub mod ValidPerfect
pub mod Folds
pub mod SquareFilling
pub mod SquareAssignments
pub mod PermSteps
pub mod Presences

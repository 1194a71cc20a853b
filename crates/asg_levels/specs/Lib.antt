pub mod MarkWords
pub mod Tight
pub mod UnitSteps
pub mod UnitLists
pub mod NextStep
pub mod laws

pub mod Kept
pub mod Copies
pub mod Halls
pub mod SingleSteps
pub mod MaskedPhases
pub mod laws

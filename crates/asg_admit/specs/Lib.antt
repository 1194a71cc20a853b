pub mod Settled
pub mod KeptCells
pub mod Admission
pub mod Settling
pub mod LeastCells
pub mod PhaseValues
pub mod Reduced
pub mod laws

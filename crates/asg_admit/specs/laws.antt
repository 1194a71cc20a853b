-- What follows from the definitions, for crates above.
pub mod KeptLabels
pub mod KeptPhases
pub mod PhaseValues
pub mod SettledCells
pub mod ProductLemmas
pub mod NextBits
pub mod SquareLemmas
pub mod SettleLemmas
pub mod ReplayLemmas
pub mod AdmissionLemmas

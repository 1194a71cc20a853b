pub mod PhaseParts
pub mod Replays
pub mod WholeLists
pub mod laws

-- Laws that upper crates cite: phases and their words, parts of phases, and phases that lead from
-- one square to another.
pub mod LiveCosts
pub mod PhaseWords
pub mod Replaying
pub mod PhaseParts
pub mod Starts

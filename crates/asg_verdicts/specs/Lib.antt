pub mod Spots
pub mod Verdicts
pub mod laws
pub mod PhaseReasons
pub mod Replays
pub mod LevelReasons
pub mod LevelWalks
pub mod LevelBits

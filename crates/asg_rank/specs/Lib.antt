pub mod Rooms
pub mod Rankings
pub mod Rankers
pub mod Desks
pub mod Opening
pub mod Written
pub mod RankOutcomes

pub mod Overtime
pub mod Rosters

pub mod Edits
pub mod Solves
pub mod Stops

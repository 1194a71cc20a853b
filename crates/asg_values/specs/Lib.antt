pub mod Marks
pub mod laws

pub mod Roots
pub mod laws

pub mod Common
pub mod Splits
pub mod Rankings
pub mod Ends
pub mod Steps

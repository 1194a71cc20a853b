pub mod Monoid
pub mod Differences
pub mod Words
pub mod Powers
pub mod Entering
pub mod Bridge
pub mod laws

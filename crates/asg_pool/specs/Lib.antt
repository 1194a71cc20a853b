pub mod Strips
pub mod Forest
pub mod Links
pub mod Paths
pub mod laws

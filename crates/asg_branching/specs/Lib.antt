pub mod Chosen
pub mod Searches
pub mod Expansions
pub mod laws

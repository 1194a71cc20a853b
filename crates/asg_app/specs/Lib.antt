pub mod Ends
pub mod Fetches

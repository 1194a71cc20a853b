pub mod CommandLine
pub mod Requests
pub mod Found
pub mod Limits
pub mod Numbers
pub mod Named
pub mod FoundRequests
pub mod Bounds

pub mod SumDuals
pub mod Sessions

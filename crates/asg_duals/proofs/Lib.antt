pub mod Common
pub mod TightLemmas

pub mod Common
pub mod EditedFound
pub mod LeastLaw
pub mod TestFacts

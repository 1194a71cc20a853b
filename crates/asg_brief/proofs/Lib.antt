pub mod Common
pub mod GivenBest
pub mod LineTexts
pub mod NextBest
pub mod Pigeonhole
pub mod RankedValues
pub mod ValueOrder

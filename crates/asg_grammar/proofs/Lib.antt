pub mod Common
pub mod SpelledDigits
pub mod SignedNumbers
pub mod ListedNumbers
pub mod ReadLines
pub mod LongWords

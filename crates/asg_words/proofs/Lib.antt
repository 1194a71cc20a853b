pub mod Common
pub mod Matches
pub mod Taken
pub mod WorkedWords
pub mod RequestBounds
pub mod Conjunctions

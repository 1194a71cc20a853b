pub mod Guesses
pub mod Tight

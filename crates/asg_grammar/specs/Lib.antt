pub mod Lines
pub mod NumberLists
pub mod Spellings
pub mod Parts
pub mod Reading
pub mod laws

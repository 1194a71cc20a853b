-- Laws that upper crates cite: of the bits of words, of the words of rows, of one place of a table
-- that stands row by row.
pub mod Bits
pub mod Words
pub mod Places

-- Laws that upper crates cite: of grades and their costs, of entries and places among them, of
-- marks that are put, of the words of rows of bits.
pub mod Grades
pub mod Entries
pub mod Puts
pub mod Words

-- Laws that upper crates cite: the cells of a table of which one was changed.
pub mod Entries

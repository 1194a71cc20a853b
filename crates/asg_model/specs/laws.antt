-- Laws that upper crates cite: of sums and counts over the numbers below a bound, of lists, of
-- tests, of rows and of cells that are kept.
pub mod Counting
pub mod Listing
pub mod Tests
pub mod Rows
pub mod Retained

-- Laws that upper crates cite: of completions, of counted rows, of the copies of columns, of squares
-- without some cells, of Hall sets told by columns.
pub mod Bijections
pub mod Rows
pub mod Copies
pub mod CopyRuns
pub mod Masks
pub mod HallColumns

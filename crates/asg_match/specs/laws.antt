-- Laws that upper crates cite: of sets of columns, of lists of different numbers, of the cells of
-- squares, of matchings, of alternating trees, of deficient rows, of columns without cells, of the
-- costs of choices.
pub mod Columns
pub mod Distinct
pub mod Cells
pub mod Matchings
pub mod Trees
pub mod Deficiency
pub mod EmptyColumns
pub mod Choices

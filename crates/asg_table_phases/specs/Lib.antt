pub mod TableRows
pub mod Sizes
pub mod GradedRows

pub mod FoldOutcomes
pub mod SolvedSquares
pub mod SolvedFrom

-- Laws that upper crates cite: what an edit leaves of an instance and its square, and of squares that
-- phases lead to.
pub mod EditedLabels
pub mod EditedSquares
pub mod KeptLabels
pub mod LedEdits
pub mod NamedCells
pub mod PassedEdits

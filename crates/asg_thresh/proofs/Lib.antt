pub mod Common
pub mod GradeLemmas
pub mod WordLemmas
pub mod CellLemmas
pub mod SquareGrades
pub mod OutcomeLemmas

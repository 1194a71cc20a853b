pub mod BoundedSums
pub mod Maxima
pub mod Grades
pub mod Entered
pub mod ObjectiveMonoids
pub mod NarrowObjectives
pub mod laws

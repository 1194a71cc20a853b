pub mod Grades
pub mod LiveCells
pub mod Marks
pub mod UnderWords
pub mod laws

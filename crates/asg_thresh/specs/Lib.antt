pub mod Grades
pub mod Words
pub mod Bounds
pub mod Thresholds
pub mod Seekers

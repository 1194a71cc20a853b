pub mod Limits
pub mod Marks
pub mod Ascending
pub mod Stretches
pub mod Cells
pub mod Capacities

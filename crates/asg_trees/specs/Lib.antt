pub mod Groups
pub mod Trees
pub mod ChoiceLists
pub mod Trails
pub mod Marks
pub mod Tallies
pub mod Descents
pub mod Judged

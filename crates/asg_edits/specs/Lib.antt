pub mod EditOutcomes
pub mod Edited
pub mod Editors

pub mod Common
pub mod Rearrangements
pub mod PowerLaws

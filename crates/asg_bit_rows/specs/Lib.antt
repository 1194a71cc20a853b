pub mod WordBits
pub mod BitTable
pub mod laws

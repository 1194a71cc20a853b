pub mod Duals
pub mod PhaseTotals
pub mod SumNumbers
pub mod laws

pub mod Common
mod DualLemmas
mod LesserLemmas
mod DualPhases
mod ZeroDuals
mod WrittenOut
mod RowLemmas

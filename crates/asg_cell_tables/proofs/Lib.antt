pub mod Common
mod TableLemmas
mod TablePieces
mod PieceLemmas
mod RowLemmas
mod ChangeLemmas
mod CountedPieces
mod FirstWords
mod GatherLemmas
mod TableFilling

pub mod Common
mod WordedPhases
mod LedSquares
mod EnteredOutcomes
mod KindOutcomes
mod NarrowOutcomes
mod MatchedColumns
mod KeptPresence
mod PresentWords
mod ListedGrades
mod TableGrades

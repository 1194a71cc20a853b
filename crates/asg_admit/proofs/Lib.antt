pub mod Common
mod SteppedLemmas
mod RowCells
mod AllowingLemmas
pub mod ExchangedMarks
mod CountLemmas
mod LeastLemmas
mod BlockLemmas
mod MarkLemmas

pub mod Common
mod CellLemmas
mod KeptThrough
mod LeadLemmas
mod LedSquares
mod LeftLemmas
mod MendLemmas
mod TouchedCells
mod TrailLemmas

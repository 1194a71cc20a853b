pub mod Common
pub mod SameCellsLaw
pub mod InstanceLaw
pub mod ScriptLineLemmas
pub mod ScriptLemmas
pub mod ScriptLaw
pub mod WrittenNumbers
pub mod WrittenCells
pub mod TokenLines
pub mod TableRows
pub mod AscendingCells
pub mod RectLines
pub mod RectLengths
pub mod RectLaw
pub mod PlainLaw
pub mod FormulaCommon
mod FormulaTables
pub mod Counted

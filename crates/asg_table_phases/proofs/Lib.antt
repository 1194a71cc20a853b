pub mod Common
mod TableCells
mod GradedEnds
mod ColumnCopies
mod RefusedCosts
mod RowCosts
mod AdmittedTables
mod ProvedChoices

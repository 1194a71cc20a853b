pub mod Common
mod CopySteps
mod DualFacts
mod EditorFacts
mod MonoidFacts
mod SessionFacts
mod SureRows

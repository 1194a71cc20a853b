pub mod Answers
pub mod ClearedRows
pub mod Opening
pub mod Sessions
pub mod LeadsOn
pub mod laws

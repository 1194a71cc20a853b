pub mod Common
pub mod UnderLemmas
pub mod EntryLemmas
pub mod MarkLemmas

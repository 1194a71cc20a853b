pub mod Common
mod FoundLemmas
mod SolvedLemmas
mod AnswerLemmas
mod SessionLemmas
mod LedLemmas
mod PushLemmas
mod UnmatchedLemmas
mod ClearedLemmas
mod EditedCosts
mod EditSteps
mod EditedSessions
mod RaisedEdits
mod OpenedLemmas
mod OpenedSessions
mod LeadsOnLemmas

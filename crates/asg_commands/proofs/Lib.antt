pub mod Common
pub mod BriefReplies
pub mod EditStarts
pub mod InstanceLemmas
pub mod JudgeLemmas
pub mod JudgeStops
pub mod ReasonPlaces
pub mod ReplyLemmas

pub mod BestValues
pub mod BriefLines
pub mod RankedEnds

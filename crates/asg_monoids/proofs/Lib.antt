mod RankedLists
pub mod SumRanges

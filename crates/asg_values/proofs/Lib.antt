pub mod Common
mod Steps
mod DescendingLists
mod LessLists
mod ExtremeBounds
mod HallRows
mod Takers
mod Decisions
mod Slots
mod MarkedRows
mod HallLaw
mod BottleneckLaw
mod SpreadLaw
mod ValueRanges
mod RefusedParts
mod ClosedColumns

-- Laws that upper crates cite: steps by 1 on squares of cells that are 0 or 1, and lists of such
-- steps.
pub mod UnitSteps
pub mod UnitLists

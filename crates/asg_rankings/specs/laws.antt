-- Laws that upper crates cite: the cells and the products of children, the places of the rows that a
-- choice gives, the choices of all children, the instances of nodes, squares of children without
-- their cells, and frontiers after a split.
pub mod ChildCells
pub mod ChosenRows
pub mod Partition
pub mod ChildFolds
pub mod NodeInstances
pub mod MaskedSquares
pub mod FrontierSteps

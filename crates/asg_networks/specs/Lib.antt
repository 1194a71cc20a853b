pub mod AsnLines
pub mod AsnArcs
pub mod NodeSets
pub mod Networks
pub mod LinkOrder
pub mod Layouts

-- What follows from the definitions, for the ghost members of the monoids and kinds.
pub mod Bounded
pub mod Maxima
pub mod Graded
pub mod SumFolds
pub mod SumOrders
pub mod PeakOrders
pub mod TimeOrders
pub mod NarrowOrders
pub mod NarrowObjectives

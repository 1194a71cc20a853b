-- What follows from the definitions, for the ghost members that name it.
pub mod Products
pub mod Orders
pub mod Words
pub mod ChosenCosts
pub mod Differences

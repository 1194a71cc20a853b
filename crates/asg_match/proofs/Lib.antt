pub mod Common
pub mod PairedLemmas
pub mod PathLemmas
pub mod SearchLemmas
pub mod HallSteps
pub mod HallIds

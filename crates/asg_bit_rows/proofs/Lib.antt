pub mod Common
mod BitLemmas
mod RunLemmas
mod WordLemmas

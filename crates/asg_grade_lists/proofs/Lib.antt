pub mod Common
mod EndLemmas
mod RiseLemmas
mod AmountLemmas
mod ListLemmas

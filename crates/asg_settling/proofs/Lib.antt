pub mod Common
mod SettledRows
mod JoinedLemmas
mod LeftLemmas

-- What follows from the definitions, for crates above.
pub mod SameNumbers
pub mod NumberLemmas
pub mod PresentLemmas
pub mod SumLemmas

pub mod Common
pub mod OfferLemmas
pub mod ScanLemmas
pub mod EnteringLaws

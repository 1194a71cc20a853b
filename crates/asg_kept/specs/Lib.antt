pub mod NarrowRows
pub mod KeptSums
pub mod KeptRows
pub mod Masked

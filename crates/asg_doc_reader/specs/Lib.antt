pub mod WordSpellings
pub mod DocumentParts
pub mod RefusedLine

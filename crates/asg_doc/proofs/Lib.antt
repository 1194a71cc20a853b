pub mod Common
pub mod ListTexts
pub mod WorkedDocuments
pub mod PageTexts

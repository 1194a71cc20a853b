pub mod LineCuts
pub mod SpellingLaws
pub mod JoinLaws
pub mod ListLaws
pub mod PartLaws
pub mod LineLaws

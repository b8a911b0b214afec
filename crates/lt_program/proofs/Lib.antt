pub mod RunLaws
pub mod LanguageLaws
pub mod StatusLaws
pub mod StoringLaws

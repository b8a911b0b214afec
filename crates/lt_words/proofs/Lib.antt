pub mod ListLaws
pub mod MarkLaws
pub mod ReadingLaws
pub mod Taking
pub mod Refusing
pub mod FormLaws
pub mod WordLaws

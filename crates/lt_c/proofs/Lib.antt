pub mod AsBox
pub mod OpeningLaws

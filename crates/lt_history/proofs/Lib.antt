pub mod ClimbLaws
pub mod MergeLaws

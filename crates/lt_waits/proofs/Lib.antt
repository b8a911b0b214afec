pub mod StepLaws
pub mod PartLaws
pub mod LayerLaws
pub mod OrderLaws
pub mod WalkLaws
pub mod ComputedLaws
pub mod ShortLaws

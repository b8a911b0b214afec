mod ChainRows
pub mod HoldingLaws
mod FrontLaws
mod ImageLaws
mod AddLaws
mod WalkLaws
mod PairLaws
mod FoldOrder
pub mod ReadLaws
pub mod DropLaws
mod HandingLaws
mod WorkedLaws

pub mod Views
pub mod Answers
pub mod Laws
pub mod Closings
pub mod Behind

pub mod HeldRanges
pub mod Crossings

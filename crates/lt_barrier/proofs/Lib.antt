pub mod CrossingLaws
pub mod HeldRuns

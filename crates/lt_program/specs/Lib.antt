pub mod Playings
pub mod Words
pub mod Refusal
pub mod Languages
pub mod Runs
pub mod Answers
pub mod Statuses

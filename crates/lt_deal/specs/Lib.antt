pub mod Rule
pub mod Plays
pub mod Seats
pub mod Fresh
pub mod Handles
pub mod Closings

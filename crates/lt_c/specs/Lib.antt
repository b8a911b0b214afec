pub mod Behind
pub mod Limit
pub mod Handles
pub mod Opened
pub mod Sharing
pub mod Slot
pub mod Told

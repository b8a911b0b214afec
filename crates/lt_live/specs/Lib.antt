pub mod Deals
pub mod Going
pub mod House
pub mod Live
pub mod Workers
pub mod RunLive
pub mod Ends

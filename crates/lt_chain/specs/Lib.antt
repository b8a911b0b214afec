pub mod Buffers
pub mod Images
pub mod Chains
pub mod Worked

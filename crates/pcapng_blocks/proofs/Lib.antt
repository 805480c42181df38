pub mod Captures
pub mod Chains
pub mod Heads
pub mod Resolutions
pub mod Seconds
pub mod Sound

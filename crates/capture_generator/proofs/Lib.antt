pub mod Gained
pub mod Lines
pub mod Lengths
pub mod FramesRead
pub mod TrialRead

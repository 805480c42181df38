pub mod Draws
pub mod Headers
pub mod Packets
pub mod Reading
pub mod TrialRules
pub mod Written

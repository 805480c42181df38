pub mod Refused
pub mod Attempt

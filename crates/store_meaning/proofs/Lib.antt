pub mod States
pub mod Attempts

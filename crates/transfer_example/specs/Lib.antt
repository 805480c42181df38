pub mod Bank
pub mod Attempts

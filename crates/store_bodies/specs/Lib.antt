pub mod Attempts
pub mod Bank
pub mod Moves

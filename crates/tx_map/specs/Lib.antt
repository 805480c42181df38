pub mod Map
pub mod Calls
pub mod Steps
pub mod Facts

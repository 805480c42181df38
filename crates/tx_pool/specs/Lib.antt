pub mod Pool
pub mod Walk
pub mod Steps

pub mod Apart
pub mod Claiming
pub mod Steps
pub mod Looking
pub mod Committing

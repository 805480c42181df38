pub mod Joined
pub mod Legal
pub mod Tells

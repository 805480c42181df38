pub mod Lawful
pub mod Keys
pub mod Heads
pub mod Words
pub mod Told
pub mod Finished

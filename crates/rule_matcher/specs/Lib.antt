pub mod Line
pub mod Names
pub mod Spots
pub mod Ends
pub mod Bounds
pub mod Filter
pub mod Sights

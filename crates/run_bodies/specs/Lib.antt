pub mod RunStores
pub mod Records
pub mod InChild
pub mod Matching
pub mod Fills

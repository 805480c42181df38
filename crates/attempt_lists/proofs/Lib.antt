pub mod Buckets
pub mod Index
pub mod Kept
pub mod Places
pub mod PartLists
pub mod Order

pub mod Ascending
pub mod Sorting

pub mod Meanings
pub mod Books
pub mod Histories
pub mod Keyed
pub mod Records
pub mod Plain

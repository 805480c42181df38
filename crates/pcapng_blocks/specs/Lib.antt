pub mod Answer
pub mod Blocks
pub mod Options
pub mod Reader
pub mod Times

pub mod Answer
pub mod Reader

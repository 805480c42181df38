pub mod Banks
pub mod Calling

pub mod Records
pub mod Reading
pub mod Steps
pub mod Closing
pub mod Refused
pub mod MoveSteps

pub mod Logs
pub mod Serial
pub mod Replies
pub mod OneRead
pub mod ReadAnswers
pub mod Sequence

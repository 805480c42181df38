pub mod Opens
pub mod Rows
pub mod Words
pub mod Telling
pub mod LastReplies
pub mod Finishing

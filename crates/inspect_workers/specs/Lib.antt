pub mod Opened
pub mod Noted
pub mod Turns
pub mod Works
pub mod Fills
pub mod Seats
pub mod Inspected
pub mod Batches

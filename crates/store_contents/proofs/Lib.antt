pub mod Words
pub mod Pairs
pub mod Planned
pub mod Popping
pub mod Stands
pub mod Closing
pub mod Booking

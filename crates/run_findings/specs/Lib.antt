pub mod Datagrams
pub mod Slots

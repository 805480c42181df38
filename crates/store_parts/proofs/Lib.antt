pub mod Touching
pub mod Maps
pub mod Pools
pub mod LogWords
pub mod Logs
pub mod Queues
pub mod PlainCells

pub mod Heads
pub mod SightHeads
pub mod Structures
pub mod Counts
pub mod Begun
pub mod Ledgers
pub mod Verdicts
pub mod Replays

pub mod Stacks
pub mod Facts
pub mod Runs
pub mod Laws
pub mod Calls
pub mod CallFacts
pub mod Closed
pub mod Moves

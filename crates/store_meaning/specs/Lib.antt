pub mod Meant
pub mod Follows
pub mod Laws
pub mod Claims
pub mod ClaimFacts

pub mod Report
pub mod Fault
pub mod Audit
pub mod Summary

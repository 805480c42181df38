pub mod Inspections
pub mod Numbers

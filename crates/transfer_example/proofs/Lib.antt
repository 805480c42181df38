pub mod Totals
pub mod Banks

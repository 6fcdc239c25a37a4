pub mod Totals
pub mod Naming

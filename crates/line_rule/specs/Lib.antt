pub mod Totals
pub mod Naming
pub mod Meaning

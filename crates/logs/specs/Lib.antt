pub mod Stands
pub mod Logs
pub mod Counts

pub mod Checks
pub mod Faults
pub mod Spans
pub mod Unique
pub mod Walk

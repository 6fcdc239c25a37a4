pub mod Decimal
pub mod Places
pub mod Runs
pub mod Faults
pub mod Answers
pub mod Parts

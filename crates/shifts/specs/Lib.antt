pub mod Journals
pub mod Shifts

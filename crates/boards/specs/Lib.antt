pub mod Faults
pub mod Held
pub mod Course
pub mod Listed

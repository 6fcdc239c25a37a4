pub mod Faults
pub mod Stood
pub mod Surveyed
pub mod Walk
pub mod Halls

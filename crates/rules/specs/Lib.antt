pub mod Children
pub mod Records
pub mod Acts
pub mod Reached
pub mod Duties

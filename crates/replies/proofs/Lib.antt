pub mod Reading
pub mod Calls

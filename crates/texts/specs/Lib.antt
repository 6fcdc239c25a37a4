pub mod Steps
pub mod Records

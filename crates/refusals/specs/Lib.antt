pub mod Told
pub mod Judged

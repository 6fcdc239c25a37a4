pub mod Faultless
pub mod Firsts

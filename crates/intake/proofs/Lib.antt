pub mod Above
pub mod Firsts
pub mod Rechaining
pub mod Rows

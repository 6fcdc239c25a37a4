pub mod Bounded
pub mod Firsts
pub mod Gathering
pub mod Halls
pub mod Passing
pub mod Walked

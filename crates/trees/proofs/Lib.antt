pub mod Cells
pub mod Firsts
pub mod Links
pub mod Numbers
pub mod Places
pub mod Stands
pub mod Sums
pub mod Walks

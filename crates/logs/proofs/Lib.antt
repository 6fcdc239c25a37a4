pub mod Tallies
pub mod States
pub mod Holding
pub mod Moves
pub mod Counts
pub mod Laws

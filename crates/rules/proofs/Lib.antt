pub mod Records
pub mod Facts
pub mod Reaches
pub mod Walking

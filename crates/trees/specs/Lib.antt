pub mod Sums
pub mod Trees
pub mod Lines
pub mod Standing
pub mod Faults
pub mod Found
pub mod Marks
pub mod Chains

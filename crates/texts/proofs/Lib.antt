pub mod Places
pub mod Taking
pub mod Chain
pub mod Axes
pub mod Through
pub mod Filled

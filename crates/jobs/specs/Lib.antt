pub mod Fields
pub mod Standing

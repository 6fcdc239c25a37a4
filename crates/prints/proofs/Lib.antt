pub mod Numeral
pub mod Standing
pub mod Whole
pub mod Ends
pub mod Once
pub mod Alone

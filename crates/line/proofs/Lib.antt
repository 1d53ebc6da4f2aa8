pub mod Inputs
pub mod Decimals

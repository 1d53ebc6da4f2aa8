pub mod Gathering
pub mod Parts

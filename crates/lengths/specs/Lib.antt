pub mod Lengths
pub mod Examples
pub mod Claims
pub mod Premises

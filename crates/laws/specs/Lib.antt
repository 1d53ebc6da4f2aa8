pub mod Claims
pub mod Premises
pub mod Trays

pub mod Calendar
pub mod Examples
pub mod Claims
pub mod Premises

pub mod Loading
pub mod Meaning

pub mod Meaning
pub mod WholeNumbers

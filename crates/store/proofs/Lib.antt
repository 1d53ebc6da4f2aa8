pub mod Pasting
pub mod Bytes

pub mod Readings
pub mod Rests

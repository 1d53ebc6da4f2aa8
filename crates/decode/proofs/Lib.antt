pub mod Rests
pub mod Numbers
pub mod Texts

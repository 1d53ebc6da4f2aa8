pub mod Signs
pub mod Digits
pub mod Integers
pub mod Nearest
pub mod Remainders
pub mod Wrapping
pub mod WholeNumbers
pub mod LowBits

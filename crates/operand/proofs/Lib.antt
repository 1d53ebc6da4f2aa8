pub mod Entries
pub mod Numerals
pub mod Alignments
pub mod Taken
pub mod Operands
pub mod Digits

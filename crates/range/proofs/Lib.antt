pub mod Pairs
pub mod Moves

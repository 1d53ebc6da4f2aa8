pub mod Places
pub mod Texts
pub mod Plans

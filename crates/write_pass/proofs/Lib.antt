pub mod Stepping
pub mod Walking

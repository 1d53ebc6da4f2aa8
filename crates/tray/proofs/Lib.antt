pub mod Led
pub mod Records
pub mod Walking
pub mod Calls

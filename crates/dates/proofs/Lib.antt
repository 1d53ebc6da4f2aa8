pub mod Closed
pub mod Counting
pub mod Dividing
pub mod Signs
pub mod Passing

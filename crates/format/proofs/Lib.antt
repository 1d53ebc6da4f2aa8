pub mod Cursors
pub mod Walking
pub mod Folding

pub mod Loading
pub mod Contents
pub mod Fields
pub mod Lists

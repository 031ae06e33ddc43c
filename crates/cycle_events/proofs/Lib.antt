pub mod Acting
pub mod Lists
pub mod Passes
pub mod Whole

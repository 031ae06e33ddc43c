pub mod Passes
pub mod Right

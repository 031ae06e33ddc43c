pub mod Going
pub mod Passed
pub mod Steps

pub mod Answered
pub mod Closes
pub mod Fitting
pub mod Steps

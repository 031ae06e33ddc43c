pub mod Later
pub mod Shown

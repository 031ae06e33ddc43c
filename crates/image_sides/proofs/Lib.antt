pub mod Unverified
pub mod Widths

pub mod Clocks
pub mod Members
pub mod Progress

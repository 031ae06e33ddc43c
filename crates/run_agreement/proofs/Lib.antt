pub mod Cycle
pub mod Losses
pub mod Texts
pub mod Whole

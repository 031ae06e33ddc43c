pub mod Losses
pub mod Plants

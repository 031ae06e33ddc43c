mod Kept
pub mod Times
mod Turns

pub mod Alive
pub mod Sizes

pub mod Gives
pub mod Helpers

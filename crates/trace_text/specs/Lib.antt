pub mod Helpers
pub mod Laws
pub mod Lines

pub mod Below
pub mod Replaced

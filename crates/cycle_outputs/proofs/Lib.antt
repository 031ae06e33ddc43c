pub mod InOrder
pub mod Ties
pub mod Below

pub mod Cycling
pub mod Laws

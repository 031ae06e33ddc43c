pub mod ByStep
pub mod Laws
pub mod Ties

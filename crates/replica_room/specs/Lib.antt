pub mod Fresh
pub mod Room

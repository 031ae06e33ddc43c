pub mod Fresh
pub mod Outs

pub mod Graphed
pub mod Source

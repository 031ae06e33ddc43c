pub mod Chain
pub mod Fronts

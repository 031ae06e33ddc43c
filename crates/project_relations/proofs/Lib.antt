pub mod Ranks
pub mod Small

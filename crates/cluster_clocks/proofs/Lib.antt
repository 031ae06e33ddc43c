pub mod Members
pub mod Progress

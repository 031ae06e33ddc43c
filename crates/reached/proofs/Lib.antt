pub mod Decided
pub mod Good
pub mod Late
pub mod Members
pub mod Prunes

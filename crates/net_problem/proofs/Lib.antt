pub mod ByNumber
pub mod Limits
pub mod Sources

pub mod Carries
pub mod Planned

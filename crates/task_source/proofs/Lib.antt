pub mod Bounded
pub mod Bounds
pub mod BuiltFacts
pub mod Once
pub mod Texts

pub mod Meaning
pub mod Ran
pub mod RunFacts
pub mod TaskFacts

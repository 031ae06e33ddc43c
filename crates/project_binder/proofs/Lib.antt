pub mod Faults
pub mod NetFacts
pub mod Renamed
pub mod Soundness

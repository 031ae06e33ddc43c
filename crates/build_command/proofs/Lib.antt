pub mod Cuts
pub mod Steps
pub mod Ends
pub mod BuildFacts

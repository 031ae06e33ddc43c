pub mod Ends
pub mod Faults
pub mod Groups
pub mod Routine

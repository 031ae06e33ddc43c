pub mod Counts
pub mod Feeders
pub mod Tables

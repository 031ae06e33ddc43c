pub mod Closing
pub mod Cycling
pub mod Progress

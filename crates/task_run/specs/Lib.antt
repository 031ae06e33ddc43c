pub mod Closing
pub mod Progress
pub mod Text

pub mod Busy
pub mod Rows

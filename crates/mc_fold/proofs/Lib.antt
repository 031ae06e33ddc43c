pub mod Checks
pub mod Meaning
pub mod Mirror
pub mod Plainly
mod Rows
pub mod Rules
pub mod Within

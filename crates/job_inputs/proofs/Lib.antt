pub mod Copied
pub mod Feeders
pub mod Feeding
pub mod Lines
pub mod Looking

pub mod All
pub mod Shapes
pub mod Sending

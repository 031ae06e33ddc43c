pub mod Edges
pub mod Passed
pub mod Sends
pub mod Walk

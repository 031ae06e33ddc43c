pub mod Seats
pub mod Fresh

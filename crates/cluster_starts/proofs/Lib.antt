pub mod Homes
pub mod Taking

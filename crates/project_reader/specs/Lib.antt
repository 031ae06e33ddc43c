pub mod Faults
pub mod Mask
pub mod ProjectOf

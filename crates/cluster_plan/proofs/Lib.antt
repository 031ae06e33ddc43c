pub mod Frames
pub mod Inputs
pub mod Messages
pub mod Numbers
pub mod Results
pub mod Ticks
pub mod Whole

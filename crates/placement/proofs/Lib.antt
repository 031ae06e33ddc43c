pub mod Finding
pub mod Fitting
pub mod Fronts
pub mod Holding
pub mod Looking
pub mod Timing

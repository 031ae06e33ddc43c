pub mod Fits
pub mod Silences

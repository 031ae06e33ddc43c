pub mod Fits
pub mod Price
mod Rows
pub mod Serving
pub mod Worth

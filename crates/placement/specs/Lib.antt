pub mod Choosing
pub mod Feeding
pub mod Held
pub mod Loads

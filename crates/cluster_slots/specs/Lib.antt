pub mod OwnWords
pub mod Puts
pub mod Shape

mod Rows
pub mod Capped
pub mod Folds
pub mod Greatest
pub mod Lines
pub mod Partial
pub mod Powers
pub mod Product
pub mod Slopes
pub mod Choices

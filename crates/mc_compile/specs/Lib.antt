pub mod Coded
pub mod Correct
pub mod Cost
pub mod Emit
pub mod Follows
pub mod Translate
pub mod Whole
pub mod Widths

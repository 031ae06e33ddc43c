pub mod Functions
pub mod Loops
pub mod Numbers
pub mod Tables
pub mod Whole

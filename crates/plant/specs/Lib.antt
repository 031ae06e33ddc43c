pub mod InOrder
pub mod Lengths
pub mod Programs

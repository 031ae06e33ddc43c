pub mod Cells
pub mod InOrder
pub mod Programs
pub mod Parts
pub mod Within

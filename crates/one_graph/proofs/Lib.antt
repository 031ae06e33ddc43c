pub mod OneCycle
pub mod OneList
pub mod Whole

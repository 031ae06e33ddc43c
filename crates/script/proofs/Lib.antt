pub mod Shrinks

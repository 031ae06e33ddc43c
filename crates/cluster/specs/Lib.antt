pub mod Clocks
pub mod First
pub mod Stands

pub mod Cycle
pub mod Event
pub mod Events
pub mod Shown
pub mod Whole

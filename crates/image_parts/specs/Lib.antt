pub mod Name
pub mod Records
pub mod Slot

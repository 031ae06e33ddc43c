pub mod Numbers
pub mod SlotState
pub mod Slots

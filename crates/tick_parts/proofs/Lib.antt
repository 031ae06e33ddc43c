pub mod Arrivals
pub mod Closing
pub mod Falls
pub mod Lists
pub mod Opening
pub mod Outputs
pub mod OwnSlots
pub mod Shown

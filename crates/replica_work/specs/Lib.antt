pub mod Ends
pub mod Works

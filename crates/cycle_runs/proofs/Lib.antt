pub mod Answered
pub mod Closes
pub mod Ends
pub mod Steps

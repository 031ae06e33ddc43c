pub mod Asked
pub mod Command
pub mod Helpers
pub mod Ran
pub mod Replies

pub mod Entries
pub mod Inbox

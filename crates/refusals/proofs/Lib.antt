pub mod CauseFacts
pub mod Replied

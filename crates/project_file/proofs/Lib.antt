pub mod FileFacts
pub mod Once
pub mod Told

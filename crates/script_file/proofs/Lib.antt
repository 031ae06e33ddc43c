pub mod FileFacts
pub mod Once

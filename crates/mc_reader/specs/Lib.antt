pub mod Reading
pub mod Roles
pub mod Machine
pub mod Readers
pub mod Answers
pub mod Plain
pub mod Frames
pub mod Places

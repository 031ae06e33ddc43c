pub mod Answers
pub mod Image

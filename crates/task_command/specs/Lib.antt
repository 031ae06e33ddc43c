pub mod Helpers
pub mod Running
pub mod Task
pub mod TaskRan

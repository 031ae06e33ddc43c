pub mod Project
pub mod Run

pub mod Answered
pub mod OneFirst
pub mod OneTable

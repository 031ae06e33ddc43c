pub mod Acts
pub mod Machine
pub mod Stack

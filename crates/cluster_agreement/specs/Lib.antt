pub mod Agreement
pub mod Agrees
pub mod Keeps
pub mod Runs

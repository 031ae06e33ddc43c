pub mod Alike
pub mod Equation
pub mod NetRun
pub mod Words

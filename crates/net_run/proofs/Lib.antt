pub mod Agreeing
pub mod Equation
pub mod Listed
pub mod Ports
pub mod Ranks
pub mod Widths

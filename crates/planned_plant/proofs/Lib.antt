pub mod Widths
pub mod WasPlanned

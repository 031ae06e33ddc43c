pub mod First
pub mod Found
pub mod Gathered
pub mod Grammar
pub mod Lines
pub mod Reader

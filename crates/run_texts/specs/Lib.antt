pub mod Along
pub mod Lines
pub mod RunText
pub mod Setting

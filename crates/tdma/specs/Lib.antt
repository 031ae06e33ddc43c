pub mod Layout
pub mod Load
pub mod Word

pub mod Crowds
pub mod FirstRepeats

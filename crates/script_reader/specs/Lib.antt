pub mod Entry
pub mod FirstLine
pub mod Reading
pub mod Reads
pub mod Words

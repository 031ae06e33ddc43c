pub mod LawfulImage
pub mod Reading

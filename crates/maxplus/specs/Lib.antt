pub mod Concave
pub mod MaxPlus

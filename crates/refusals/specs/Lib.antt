pub mod Causes
pub mod Said
pub mod Status
pub mod Words

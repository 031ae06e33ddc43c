pub mod Given
pub mod Once

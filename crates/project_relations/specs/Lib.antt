pub mod RelationFails
pub mod Relations

pub mod Document
pub mod First
pub mod Form
pub mod FormFails
pub mod Kind
pub mod Sheet

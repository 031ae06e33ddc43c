pub mod RowFails
pub mod Rules

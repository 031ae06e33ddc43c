pub mod Keys
pub mod Named
pub mod Number
pub mod Progress
pub mod Rules
pub mod Valid

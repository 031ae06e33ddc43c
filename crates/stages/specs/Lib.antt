pub mod Exact
pub mod Files
pub mod Helpers
pub mod Stage
pub mod World

pub mod Feeds
pub mod Placed

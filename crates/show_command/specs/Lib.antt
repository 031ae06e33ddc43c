pub mod Show
pub mod ShowRan

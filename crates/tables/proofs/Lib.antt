pub mod Edges
pub mod FewUnits
pub mod FirstJobs
pub mod InOrder
pub mod Sharing
pub mod Stripping

pub mod Clusters
pub mod Forms
pub mod Keeping
pub mod Known
pub mod Lists
pub mod Masked
pub mod Tests
pub mod Together

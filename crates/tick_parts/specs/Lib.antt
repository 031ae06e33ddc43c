pub mod OnBus
pub mod Opens
pub mod Shows
pub mod Takes
pub mod Tells

pub mod TaskPlaces
pub mod Encoded
pub mod Settled
pub mod Judged

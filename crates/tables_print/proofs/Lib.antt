pub mod Printed
pub mod ShowingFacts

pub mod GraphedFacts
pub mod GraphSteps

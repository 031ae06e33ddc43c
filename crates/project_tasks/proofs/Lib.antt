pub mod EntryFacts
pub mod ReadSteps

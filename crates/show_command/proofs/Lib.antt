pub mod ShowFacts
pub mod ShowMeaning

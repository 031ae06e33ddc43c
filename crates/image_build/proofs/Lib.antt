pub mod MadeFacts

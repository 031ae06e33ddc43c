pub mod LawfulEntries

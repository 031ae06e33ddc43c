pub mod Loop
pub mod LawfulRecords
pub mod LawfulSlots

pub mod FoundTables

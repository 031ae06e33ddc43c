pub mod Went

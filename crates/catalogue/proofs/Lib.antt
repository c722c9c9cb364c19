pub mod Floats
pub mod Entries

pub mod Fates
pub mod Entries

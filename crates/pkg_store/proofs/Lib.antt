pub mod Ascending
pub mod Gathering
pub mod Removing

pub mod Turning
pub mod FileLists
pub mod Entries
pub mod Merging
pub mod Lists

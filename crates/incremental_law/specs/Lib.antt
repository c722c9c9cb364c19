pub mod Stores
pub mod Clean
pub mod Saves
pub mod Journals
pub mod Runs
pub mod Laws

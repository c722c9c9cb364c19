pub mod Told
pub mod Words
pub mod Settings
pub mod Steps
pub mod Planned
pub mod Answering

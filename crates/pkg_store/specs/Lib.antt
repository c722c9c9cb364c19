pub mod Loaded
pub mod Loading
pub mod Faults
pub mod Changing
pub mod Reading

pub mod Builder
pub mod Turns

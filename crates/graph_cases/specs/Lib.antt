pub mod Examples
pub mod Threes

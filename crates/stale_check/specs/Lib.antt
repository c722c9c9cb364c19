pub mod Fresh
pub mod Own
pub mod Current
pub mod Stale
pub mod Kept
pub mod Placing
pub mod Lost
pub mod Recording

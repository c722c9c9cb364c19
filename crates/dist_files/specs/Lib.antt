pub mod Hashes
pub mod Lines
pub mod Distinfo
pub mod Stated
pub mod Checked

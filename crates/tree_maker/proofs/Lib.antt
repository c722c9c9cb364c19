pub mod Ranges
pub mod Drawing
pub mod Lines
pub mod Names
pub mod Apart
pub mod Files

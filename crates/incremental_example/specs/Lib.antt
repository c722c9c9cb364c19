pub mod Ports
pub mod Diamond

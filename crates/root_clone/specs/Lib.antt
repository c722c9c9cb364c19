pub mod Taking
pub mod Filled

pub mod Layers
pub mod Stack
pub mod Defined
pub mod Implied
pub mod Refused
pub mod Chosen

pub mod Description
pub mod Reading
pub mod Asked
pub mod Usage
pub mod Texts
pub mod Refused

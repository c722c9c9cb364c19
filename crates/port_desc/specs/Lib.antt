pub mod Values
pub mod Flavors
pub mod Naming
pub mod Dependencies
pub mod Commands
pub mod Reasons
pub mod Description

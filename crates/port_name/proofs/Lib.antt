pub mod Separators
pub mod SetView
pub mod Plain
pub mod Origins
pub mod Sizes
pub mod Spelled
pub mod Parting

pub mod Cutting
pub mod Gathering
pub mod Placing
pub mod Baking

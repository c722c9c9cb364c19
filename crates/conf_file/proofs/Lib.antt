pub mod Named
pub mod Parts
pub mod Said
pub mod ReadSoFar
pub mod Starred
pub mod Cutting

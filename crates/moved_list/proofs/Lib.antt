pub mod Readable
pub mod Bars
pub mod Read
pub mod Last
pub mod Walked

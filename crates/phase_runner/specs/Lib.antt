pub mod Running
pub mod Staged
pub mod Marks

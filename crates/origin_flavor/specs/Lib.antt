pub mod ListFile
pub mod Words
pub mod Answers
pub mod Nodes
pub mod Notices
pub mod Command

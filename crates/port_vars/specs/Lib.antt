pub mod Joined
pub mod Comment
pub mod Reference
pub mod Assignment
pub mod Variables
pub mod Answers
pub mod ValueWords

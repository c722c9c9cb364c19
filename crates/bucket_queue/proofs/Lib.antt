pub mod Counting
pub mod Best
pub mod Steps
pub mod Begun
pub mod Buckets
pub mod Taking
pub mod Rest
pub mod Telling

pub mod Failing
pub mod Found
pub mod Shell
pub mod Choice

pub mod Lists
pub mod Marks
pub mod Packages
pub mod Running
pub mod Ending
pub mod Listed
pub mod Answering
pub mod Alone

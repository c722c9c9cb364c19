pub mod Marks
pub mod Told
pub mod Written
pub mod Rule
pub mod Changes
pub mod Steps
pub mod Seats
pub mod Attempts

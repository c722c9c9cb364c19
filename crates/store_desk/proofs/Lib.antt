pub mod Least
pub mod Marks
pub mod Puts
pub mod Turns
pub mod Seats
pub mod Ends
pub mod Attempting

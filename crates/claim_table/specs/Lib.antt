pub mod Words
pub mod Told
pub mod Views
pub mod Rule
pub mod Changes
pub mod Steps
pub mod Seats
pub mod Inside

pub mod Seen
pub mod Places
pub mod Taken
pub mod Rooms

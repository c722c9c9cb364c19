pub mod Programs
pub mod RoomState

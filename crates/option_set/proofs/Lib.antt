pub mod Layered
pub mod Among
pub mod Spreading
pub mod Turning
pub mod Choosing
pub mod Rounds

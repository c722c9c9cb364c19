pub mod Said
pub mod Reading
pub mod Laws
pub mod Hashing
pub mod Noting
pub mod Stored

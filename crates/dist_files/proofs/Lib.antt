pub mod Tests
pub mod Inside
pub mod Noting
pub mod Read
pub mod Sets

pub mod Make
pub mod Lines
pub mod Conf
pub mod Pattern

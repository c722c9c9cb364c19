pub mod Causes
pub mod Telling
pub mod Entering
pub mod Ordering
pub mod Assembling
pub mod Statuses

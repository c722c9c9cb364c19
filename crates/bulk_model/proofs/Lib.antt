pub mod PlanEdges
mod Setbacks
pub mod Marks
pub mod FileNames
pub mod Digits
pub mod JobFields
pub mod PlanTests
pub mod Bases

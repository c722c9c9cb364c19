pub mod Graphs
pub mod Reached
pub mod Found
pub mod Order
pub mod Turned
pub mod Waiting
pub mod Chains

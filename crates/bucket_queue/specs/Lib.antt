pub mod QueueView
pub mod Inner
pub mod Taking

pub mod JobParts
pub mod PlanParts
pub mod Fitting
pub mod Apart

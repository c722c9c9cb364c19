pub mod DryRun
pub mod Refusals
pub mod Ending
pub mod Blame

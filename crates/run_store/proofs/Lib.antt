pub mod Remaining
pub mod Firsts
pub mod Staying
pub mod Fitting

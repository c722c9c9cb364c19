pub mod Records
pub mod Stores
pub mod Recipes
pub mod Units

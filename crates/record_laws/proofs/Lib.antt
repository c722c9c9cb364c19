pub mod Beginnings
pub mod Storing
pub mod Delimiting
pub mod RecipeParts
pub mod RecipesApart
pub mod Shapes
pub mod Stages
pub mod Stopping

pub mod Forms
pub mod Package
pub mod Sets
pub mod PackageForm

pub mod Turns
pub mod Faults
pub mod Gathered
pub mod FolderFiles
pub mod Distfiles
pub mod FileForms
pub mod NodeFiles
pub mod BaseFiles

pub mod Plans
pub mod Results
pub mod Builds
pub mod Soundness

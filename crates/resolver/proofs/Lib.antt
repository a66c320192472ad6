pub mod Resolves
pub mod Resolutions

pub mod Format
pub mod WriteLoops
pub mod ReadLoops
pub mod Limits
pub mod Written
pub mod Judged
pub mod Spelling
pub mod Bounds

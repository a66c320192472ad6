pub mod Promises
pub mod Examples
pub mod Cards

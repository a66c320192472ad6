pub mod Writing
pub mod Stage
pub mod Rule

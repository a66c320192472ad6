pub mod Card
pub mod Writing
pub mod Reading

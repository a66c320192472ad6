pub mod Profile
pub mod Refusals
pub mod Options
pub mod Splitting
pub mod Spans

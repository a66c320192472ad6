pub mod Options
pub mod Numbers
pub mod Parts
pub mod Splitting
pub mod OptionFields
pub mod Counts
pub mod FieldWalk

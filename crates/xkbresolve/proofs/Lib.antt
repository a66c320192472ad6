pub mod Cuts
pub mod Prints
pub mod Runs

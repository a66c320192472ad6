pub mod Values
pub mod Spread
pub mod Cutting
pub mod Filling
pub mod Expanding

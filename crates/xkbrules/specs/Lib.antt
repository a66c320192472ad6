pub mod Sheet
pub mod Cards

pub mod Sheet
pub mod OneByOne
pub mod Entry
pub mod Ways
pub mod CardWays
pub mod Desk
pub mod ReadBack

pub mod Matching
pub mod Layouts
pub mod Firings
pub mod Components
pub mod Answer
pub mod Told
pub mod Joined
pub mod Spellings

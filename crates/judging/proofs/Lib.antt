pub mod RuleLines
pub mod Indexed
pub mod SetLines
pub mod GroupLines
pub mod LayoutRange

pub mod Sums
pub mod Merges
pub mod Ranges
pub mod Nexts
pub mod Built
pub mod Values
pub mod Limits

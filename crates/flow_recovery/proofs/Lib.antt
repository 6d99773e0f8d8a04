pub mod Closure
pub mod Found
pub mod Following
pub mod Listed
pub mod Segments
pub mod Unique
pub mod Pairs

pub mod Passed
pub mod Ordered

pub mod Distances
pub mod Searching
pub mod Turns

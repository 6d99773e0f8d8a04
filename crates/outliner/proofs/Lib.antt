pub mod Appends
pub mod Copied
pub mod Spread
pub mod Divided
pub mod Whole

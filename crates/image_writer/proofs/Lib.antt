pub mod Fields
pub mod Steps
pub mod Splits
pub mod Headers
pub mod Parts
pub mod Law

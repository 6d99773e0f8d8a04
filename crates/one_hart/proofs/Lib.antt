pub mod Standing
mod Steps
pub mod Whole

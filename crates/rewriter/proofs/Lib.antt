mod Segments
pub mod Differences
mod OneAnswer
mod Admitting

pub mod Lone
pub mod Numbers
pub mod Memories
pub mod Adding
pub mod Judging
pub mod Joining

pub mod Image
pub mod Split

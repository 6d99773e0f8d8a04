pub mod Access
pub mod Areas
pub mod Layout
pub mod Spans
pub mod Words
pub mod WholeAreas

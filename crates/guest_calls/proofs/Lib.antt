pub mod Spans
pub mod Stored
pub mod Table

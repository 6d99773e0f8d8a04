pub mod Marks
pub mod Masks
pub mod Writers
pub mod Words
pub mod Rows
pub mod Results
pub mod OneClass

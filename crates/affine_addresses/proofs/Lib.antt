pub mod AccessLists
pub mod Listed
pub mod Values
pub mod OneList

pub mod Rewriting
pub mod Reasons
pub mod Admission

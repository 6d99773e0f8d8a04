pub mod FormLaws
pub mod Rows
pub mod States
pub mod OneSolution
pub mod Astray
pub mod OneResult

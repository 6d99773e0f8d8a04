pub mod LoopVerdicts
pub mod Stubs
pub mod Adding
pub mod Division
pub mod Refusals
pub mod OneDivision
pub mod Sample

mod Words
mod OneDivision
mod Planned
mod NoCode
mod Lengths
mod Sizes
mod AllVerdicts
mod Added
pub mod Ascending

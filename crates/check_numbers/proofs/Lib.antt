pub mod Parts
pub mod Sums
pub mod Words
pub mod Residues
pub mod Pairs
pub mod Trips
pub mod Signed
pub mod Differ

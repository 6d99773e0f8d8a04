pub mod Parts
pub mod Sums
pub mod PairWords
pub mod Pairs
pub mod TripWords
pub mod Laws

pub mod Terms
pub mod PairTests
pub mod Overlaps
pub mod Worked
pub mod Hopeless
pub mod Known
pub mod Separation
pub mod OneTerm

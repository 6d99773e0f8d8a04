pub mod Code
pub mod Places
pub mod Straight
pub mod Locations
pub mod Harts
pub mod Laws
pub mod Sound

pub mod Readings
pub mod Numbers
pub mod Told
pub mod Exits
pub mod Turns
pub mod OneTrip

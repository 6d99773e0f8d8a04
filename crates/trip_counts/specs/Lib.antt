pub mod TripLaws
pub mod Worked
pub mod OneTrip

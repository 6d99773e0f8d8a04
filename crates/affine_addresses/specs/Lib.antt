pub mod Lists
pub mod AddressLaws
pub mod Worked
pub mod OneList

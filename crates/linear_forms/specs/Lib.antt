pub mod Forms
pub mod Extremes
pub mod Locations
pub mod Merging
pub mod Views

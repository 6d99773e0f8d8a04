pub mod Flows
pub mod Reaching
pub mod Refusals
pub mod Search

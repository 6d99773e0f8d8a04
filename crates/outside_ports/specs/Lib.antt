pub mod Ports
pub mod Fakes

pub mod Alone
pub mod Forks
pub mod Added
pub mod Judged

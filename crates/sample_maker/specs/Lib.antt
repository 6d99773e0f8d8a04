pub mod Assembly
pub mod Meanings
pub mod Programs
pub mod Sample

pub mod Rows
pub mod Decodes
pub mod Faults
pub mod Fields
pub mod Sound
pub mod XDecodes

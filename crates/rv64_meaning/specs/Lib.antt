pub mod Executes
pub mod Mnemonics

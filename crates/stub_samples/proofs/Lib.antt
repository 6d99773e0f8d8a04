pub mod Rounds
pub mod NestStub
mod NestForks

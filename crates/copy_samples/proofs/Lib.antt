pub mod NestCopies
pub mod Independent

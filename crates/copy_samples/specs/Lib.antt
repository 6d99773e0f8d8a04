pub mod NestCopies

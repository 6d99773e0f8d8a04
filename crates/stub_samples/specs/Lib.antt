pub mod NestStub

pub mod Expression
pub mod Promises

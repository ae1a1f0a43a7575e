pub mod Evaluate
pub mod Promises

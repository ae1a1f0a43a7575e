pub mod Verdict
pub mod Promises

pub mod Causes
pub mod Promises

pub mod Sentence
pub mod Promises

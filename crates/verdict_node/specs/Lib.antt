pub mod NodeVerdict
pub mod Promises

pub mod Why
pub mod Told
pub mod Promises

pub mod Sheet
pub mod Index
pub mod Promises

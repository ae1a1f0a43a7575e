pub mod Listing
pub mod Promises

pub mod Sites
pub mod Said
pub mod Kept

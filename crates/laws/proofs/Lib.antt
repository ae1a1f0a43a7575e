pub mod Booleans
pub mod SameWords

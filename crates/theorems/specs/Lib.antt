pub mod Branches
pub mod Runs
pub mod Lines
pub mod Sentences
pub mod Text
pub mod Rows

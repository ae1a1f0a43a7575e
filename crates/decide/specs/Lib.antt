pub mod Decide
pub mod Decided
pub mod Rows
pub mod Answers

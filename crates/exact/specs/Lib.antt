pub mod Exact
pub mod Sides
pub mod Answers

-- the cases of the operation
pub mod Answers

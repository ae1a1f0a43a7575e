pub mod Operators
pub mod Evaluation
pub mod Run
pub mod Examples

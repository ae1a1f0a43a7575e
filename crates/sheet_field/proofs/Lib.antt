-- laws of the definitions, which other proofs cite
pub mod Fields
pub mod Counted
pub mod Steps
pub mod Words

-- laws of the definitions, which other proofs cite
pub mod Instructions
pub mod Accepted
pub mod Stages
pub mod Checks

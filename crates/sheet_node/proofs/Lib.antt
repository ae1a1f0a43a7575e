-- laws of the definitions, which other proofs cite
pub mod Statements
pub mod Nodes
pub mod Checks
pub mod Decoding
pub mod Accepted
pub mod Variables

-- laws of the definitions, which other proofs cite
pub mod Apart

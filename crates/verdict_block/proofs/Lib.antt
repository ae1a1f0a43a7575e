-- laws of the definitions, which other proofs cite
pub mod Between
pub mod Ranges
pub mod OnSheet

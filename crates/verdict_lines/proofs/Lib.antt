-- laws of the definitions, which other proofs cite
pub mod Decided
pub mod Puts
pub mod Written
pub mod Over

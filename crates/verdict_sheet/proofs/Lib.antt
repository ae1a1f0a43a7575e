-- laws of the definitions, which other proofs cite
pub mod Branches
pub mod Codes
pub mod Keeping
pub mod Order
pub mod Due

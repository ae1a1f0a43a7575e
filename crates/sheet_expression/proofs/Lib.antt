-- laws of the definitions, which other proofs cite
pub mod OneRecord
pub mod Checks
pub mod Tables
pub mod Lists
pub mod Accepted
pub mod Typing
pub mod Decoding
pub mod Variables

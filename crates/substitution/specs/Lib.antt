pub mod Substitution
pub mod Held
pub mod Examples

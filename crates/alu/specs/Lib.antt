pub mod Width
pub mod Arithmetic
pub mod Flags

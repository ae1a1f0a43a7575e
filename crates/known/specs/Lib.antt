pub mod Values
pub mod Registers
pub mod Operations
pub mod Conditions

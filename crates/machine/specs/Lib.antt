pub mod States
pub mod Registers
pub mod Finish
pub mod Rules
pub mod Conditions

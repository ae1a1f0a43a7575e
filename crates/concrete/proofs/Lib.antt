-- laws of the definitions, and the theorems
pub mod Arithmetic
pub mod Outcome
pub mod Registers
pub mod Forget
pub mod Effects
pub mod Sound
pub mod Jumps
pub mod Forced

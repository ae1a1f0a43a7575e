pub mod MapBit
pub mod Instruction
pub mod Promises
